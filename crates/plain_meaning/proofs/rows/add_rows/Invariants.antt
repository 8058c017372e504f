use Rattle.std.proofs.Common.{◌≡◌, ◌++◌, map, take}
use Rattle.plain_meaning.proofs.rows.add_rows.Given as goal

abbrev pub invariant-loop-number : goal.invariant-loop-number
invariant-loop-number l = map (λ row. row.now) l.rows.items ≡ map (λ row. row.now) l.initial.rows.items ++ take l.number l.table.rows
