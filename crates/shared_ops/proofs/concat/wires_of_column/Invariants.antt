use Rattle.std.proofs.Common.{◌≡◌, map, take}
use Rattle.shared_ops.specs.Joint.{column_wire}
use Rattle.shared_ops.proofs.concat.wires_of_column.Given as goal

abbrev pub invariant-loop-table : goal.invariant-loop-table
invariant-loop-table l = l.parts.items ≡ map (column_wire l.column) (take l.table-index l.tables)
