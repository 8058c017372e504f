use Rattle.std.proofs.Common.{ℕ, cond, nat_lt, [], ◌∷◌, ◌++◌, sym, ◌∙◌}
use Rattle.padded.proofs.Steps.{map_more_numbers}
use Rattle.padded.proofs.table.valid_words.Goals as goal

pub loop-place-preserved : goal.loop-place-preserved
loop-place-preserved c =
    c.in_ok-push.ensures.items ∙ (λ i. c.loop-place.invariant i ++ c.valid_word.ensures i ∷ []) ∙ sym (map_more_numbers (λ (place : ℕ). cond (nat_lt place c.args.rows) 1 0) c.loop-place.place)
