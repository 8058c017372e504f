use Rattle.std.proofs.Common.{◌≡◌, map}
use Rattle.std.specs.List.{range_with_len}
use Rattle.tapes.specs.RowLaws.{row_across}
use Rattle.twin.proofs.rows.rows_of_columns.Given as goal

abbrev pub invariant-loop-place : goal.invariant-loop-place
invariant-loop-place l = map (λ row. row.items) l.rows.items ≡ map (row_across (map (λ column. column.items) l.columns)) (range_with_len 0 l.place)
