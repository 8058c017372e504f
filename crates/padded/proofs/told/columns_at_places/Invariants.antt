use Rattle.std.proofs.Common.{◌≡◌, map}
use Rattle.tapes.specs.RowLaws.{row_across}
use Rattle.listed.specs.Lists.{owned}
use Rattle.padded.specs.Table.{padded_columns}
use Rattle.padded.proofs.told.columns_at_places.Given as goal

abbrev pub invariant-loop-column : goal.invariant-loop-column
invariant-loop-column l = owned l.table.items ≡ padded_columns l.column l.count (map (row_across (owned l.columns)) l.places)
