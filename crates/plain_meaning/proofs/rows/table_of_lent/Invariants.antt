use Rattle.std.proofs.Common.{◌≡◌, map, take}
use Rattle.plain_meaning.proofs.rows.table_of_lent.Given as goal

abbrev pub invariant-loop-row : goal.invariant-loop-row
invariant-loop-row l = l.table ≡ record { columns = l.fn.columns.items; rows = map (λ row. row.now) (take l.row-index l.rows) }
