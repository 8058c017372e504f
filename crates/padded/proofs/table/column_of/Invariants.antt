use Rattle.std.proofs.Common.{◌≡◌, map}
use Rattle.padded.specs.Table.{padded_column}
use Rattle.padded.proofs.table.column_of.Given as goal

abbrev pub invariant-loop-place : goal.invariant-loop-place
invariant-loop-place l = l.words.items ≡ padded_column l.place (map (λ row. row.now) l.rows) l.column
