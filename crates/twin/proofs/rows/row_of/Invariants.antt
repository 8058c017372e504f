use Rattle.std.proofs.Common.{◌≡◌, map, take}
use Rattle.tapes.specs.RowLaws.{row_across}
use Rattle.twin.proofs.rows.row_of.Given as goal

abbrev pub invariant-loop-column : goal.invariant-loop-column
invariant-loop-column l = l.row.items ≡ row_across (map (λ column. column.items) (take l.column-index l.columns)) l.place
