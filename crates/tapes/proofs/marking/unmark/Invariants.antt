use Rattle.std.proofs.Common.{◌≡◌, ℕ, ◌<◌, ◌≤◌, ◌%◌, ◌^◌, get_or}
use Rattle.tapes.proofs.marking.unmark.Given as goal

abbrev pub invariant-loop-place : goal.invariant-loop-place
invariant-loop-place l =
    ((k : ℕ) → k < l.place-index → get_or l.places k 0 ≡ get_or l.fn.places k 0 % 2 ^ 31)
    × ((k : ℕ) → l.place-index ≤ k → get_or l.places k 0 ≡ get_or l.fn.places k 0)
