use Rattle.std.proofs.Common.{◌≡◌, length}
use Rattle.rewrites.proofs.up.none_up.Given as goal

abbrev pub invariant-loop-number : goal.invariant-loop-number
invariant-loop-number l = length l.up.items ≡ l._number
