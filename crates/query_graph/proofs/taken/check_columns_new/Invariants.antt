use Rattle.std.proofs.Common.{◌≡◌, take, drop}
use Rattle.query_graph.specs.Columns.{repeated_behind, repeated_column}
use Rattle.query_graph.specs.Tables.{column_names}
use Rattle.query_graph.proofs.taken.check_columns_new.Given as goal

-- the table has the names of the columns so far, none of which an earlier one has
abbrev pub invariant-loop-column : goal.invariant-loop-column
invariant-loop-column l =
    (l.names ≡ column_names (take l.column-index l.columns))
    × (repeated_column l.line l.columns ≡ repeated_behind l.line (take l.column-index l.columns) (drop l.column-index l.columns))
