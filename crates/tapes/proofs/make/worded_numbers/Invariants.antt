use Rattle.std.proofs.Common.{◌≡◌}
use Rattle.tapes.specs.Made.{key_word, worded}
use Rattle.tapes.proofs.Making.{generator_at}
use Rattle.tapes.proofs.make.worded_numbers.Given as goal

abbrev pub invariant-loop-i : goal.invariant-loop-i
invariant-loop-i l =
    (l.pairs.items ≡ worded (λ i. key_word l.fn.key i) l.i) × (l.words ≡ generator_at l.fn.key l.i)
