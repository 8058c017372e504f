use Rattle.std.proofs.Common.{◌≡◌, map, take}
use Rattle.shared_ops.specs.Joint.{column_wire}
use Rattle.shared_ops.proofs.group.with_keys.Given as goal

abbrev pub invariant-loop-key : goal.invariant-loop-key
invariant-loop-key l = l.made.items ≡ map (λ key. column_wire key l.table) (take l.key-index l.keys)
