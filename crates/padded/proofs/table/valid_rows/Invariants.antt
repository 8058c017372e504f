use Rattle.std.proofs.Common.{◌≡◌, map}
use Rattle.std.specs.List.{filter, range_with_len}
use Rattle.tapes.specs.RowLaws.{row_across}
use Rattle.padded.specs.Table.{is_live}
use Rattle.padded.proofs.table.valid_rows.Given as goal

abbrev pub invariant-loop-place : goal.invariant-loop-place
invariant-loop-place l = map (λ row. row.items) l.rows.items ≡ map (row_across (map (λ column. column.items) l.columns)) (filter (is_live l.valid) (range_with_len 0 l.place))
