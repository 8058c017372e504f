use Rattle.std.proofs.Common.{◌≡◌, length, map, take}
use Rattle.tables.proofs.table.Table.lent_rows.Given as goal

abbrev pub invariant-loop-index : goal.invariant-loop-index
invariant-loop-index l = (l.index-end ≡ length l.self.rows) × (map (λ row. row.now) l.rows.items ≡ take l.index l.self.rows)
