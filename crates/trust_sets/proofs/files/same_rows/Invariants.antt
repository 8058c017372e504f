use Rattle.std.proofs.Common.{◌≡◌, take}
use Rattle.trust_sets.proofs.files.same_rows.Given as goal

abbrev pub invariant-loop-index : goal.invariant-loop-index
invariant-loop-index l = take l.index l.left.rows ≡ take l.index l.right.rows
