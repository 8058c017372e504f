use Rattle.std.proofs.Common.{◌≡◌, map}
use Rattle.padded.specs.Table.{padded_columns}
use Rattle.padded.proofs.table.pad_rows.Given as goal

abbrev pub invariant-loop-column : goal.invariant-loop-column
invariant-loop-column l = map (λ column. column.items) l.table.items ≡ padded_columns l.column l.count (map (λ row. row.now) l.rows)
