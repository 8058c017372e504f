use Rattle.std.proofs.Common.{◌≡◌, map, take}
use Rattle.rewrites.proofs.part_rows.table_of.Given as goal

abbrev pub invariant-loop-row : goal.invariant-loop-row
invariant-loop-row l = l.table ≡ record { columns = l.columns; rows = map (λ row. row.now) (take l.row-index l.rows) }
