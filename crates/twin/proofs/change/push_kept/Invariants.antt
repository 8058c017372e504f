use Rattle.std.proofs.Common.{◌≡◌, ◌++◌, drop}
use Rattle.twin.proofs.change.push_kept.Given as goal

abbrev pub invariant-loop-place : goal.invariant-loop-place
invariant-loop-place l = l.fn.made ++ drop l.fn.from l.tape ≡ l.made ++ drop l.place l.tape
