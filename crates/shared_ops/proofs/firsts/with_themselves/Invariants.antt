use Rattle.std.proofs.Common.{◌≡◌, take}
use Rattle.shared_ops.specs.Groups.{with_themselves}
use Rattle.shared_ops.proofs.firsts.with_themselves.Given as goal

abbrev pub invariant-loop-key : goal.invariant-loop-key
invariant-loop-key l = l.pairs.items ≡ with_themselves (take l.key-index l.keys)
