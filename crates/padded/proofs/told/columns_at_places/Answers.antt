use Rattle.std.proofs.Common.{ℕ, Vec, Global, map, [], ◌∷◌, ◌++◌, sym, ap, ◌∙◌}
use Rattle.std.proofs.lemmas.List.{map_push}
use Rattle.tapes.specs.RowLaws.{row_across}
use Rattle.listed.specs.Lists.{owned}
use Rattle.padded.specs.Table.{padded_column}
use Rattle.padded.proofs.Steps.{map_more_numbers}
use Rattle.padded.proofs.told.columns_at_places.Goals as goal

pub loop-column-preserved : goal.loop-column-preserved
loop-column-preserved c =
    let listed = λ (words : Vec ℕ Global). words.items in
    let rows = map (row_across (owned c.args.columns.now)) c.args.places.now in
    ap (map listed) c.in_ok-push.ensures.items ∙ map_push listed c.loop-column.table.items c.in_ok-column_at_places.field-0
    ∙ (λ i. c.loop-column.invariant i ++ c.in_ok-column_at_places.ensures i ∷ [])
    ∙ sym (map_more_numbers (padded_column c.args.count rows) c.loop-column.column)
