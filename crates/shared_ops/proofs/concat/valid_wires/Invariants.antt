use Rattle.std.proofs.Common.{◌≡◌, map, take}
use Rattle.shared_ops.proofs.concat.valid_wires.Given as goal

abbrev pub invariant-loop-table : goal.invariant-loop-table
invariant-loop-table l = l.parts.items ≡ map (λ t. t.valid) (take l.table-index l.tables)
