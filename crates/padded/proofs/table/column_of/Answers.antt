use Rattle.std.proofs.Common.{ℕ, map, get_or, [], ◌∷◌, ◌++◌, sym, ◌∙◌}
use Rattle.tapes.specs.Align.{row_at}
use Rattle.padded.proofs.Steps.{map_more_numbers}
use Rattle.padded.proofs.table.column_of.Goals as goal

pub loop-place-preserved : goal.loop-place-preserved
loop-place-preserved c =
    let rows = map (λ row. row.now) c.args.rows.now in
    c.in_ok-push.ensures.items ∙ (λ i. c.loop-place.invariant i ++ c.word_of.ensures i ∷ []) ∙ sym (map_more_numbers (λ (place : ℕ). get_or (row_at rows place) c.args.column 0) c.loop-place.place)
