use Rattle.std.proofs.Common.{◌≡◌, map, take}
use Rattle.plain_operators.specs.Columns.{cut}
use Rattle.trust_sets.proofs.cut_rows.cut_rows.Given as goal

abbrev pub invariant-loop-index : goal.invariant-loop-index
invariant-loop-index l = map (λ row. row.items) l.rows.items ≡ map (cut l.columns) (take l.index l.table.rows)
