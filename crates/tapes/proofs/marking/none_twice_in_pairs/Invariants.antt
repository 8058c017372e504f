use Rattle.std.proofs.Common.{◌≡◌, ℕ, ◌<◌, get_or}
use Rattle.tapes.proofs.marking.none_twice_in_pairs.Given as goal

abbrev pub invariant-loop-i : goal.invariant-loop-i
invariant-loop-i l = (i j : ℕ) → i < l.i → j < l.i → get_or l.places i 0 ≡ get_or l.places j 0 → i ≡ j
