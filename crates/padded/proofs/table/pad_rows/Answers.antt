use Rattle.std.proofs.Common.{ℕ, Vec, Global, map, [], ◌∷◌, ◌++◌, sym, ap, ◌∙◌}
use Rattle.std.proofs.lemmas.List.{map_push}
use Rattle.padded.specs.Table.{padded_column}
use Rattle.padded.proofs.Steps.{map_more_numbers}
use Rattle.padded.proofs.table.pad_rows.Goals as goal

pub loop-column-preserved : goal.loop-column-preserved
loop-column-preserved c =
    let listed = λ (words : Vec ℕ Global). words.items in
    let rows = map (λ row. row.now) c.args.rows.now in
    ap (map listed) c.in_ok-push.ensures.items ∙ map_push listed c.loop-column.table.items c.in_ok-column_of.field-0
    ∙ (λ i. c.loop-column.invariant i ++ c.in_ok-column_of.ensures i ∷ [])
    ∙ sym (map_more_numbers (padded_column c.args.count rows) c.loop-column.column)
