use Rattle.tables.specs.Records.{unread}
use Rattle.tables.proofs.Rows.{RowsSoFar}
use Rattle.tables.proofs.file.read_rows.Given as goal

abbrev pub invariant-loop-taken : goal.invariant-loop-taken
invariant-loop-taken l = RowsSoFar l.columns.items (unread l.fn.reader) l.reader l.table l.taken
