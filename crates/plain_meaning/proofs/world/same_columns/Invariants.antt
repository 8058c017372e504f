use Rattle.std.proofs.Common.{◌≡◌, take}
use Rattle.plain_meaning.proofs.world.same_columns.Given as goal

abbrev pub invariant-loop-number : goal.invariant-loop-number
invariant-loop-number l = take l.number l.left ≡ take l.number l.right
