use Rattle.std.proofs.Common.{◌≡◌, ◌++◌, take}
use Rattle.query_graph.specs.Columns.{other_columns}
use Rattle.query_graph.proofs.columns.add_others.Given as goal

-- those of the columns so far that aren't keys were added
abbrev pub invariant-loop-column : goal.invariant-loop-column
invariant-loop-column l = l.columns.items ≡ l.fn.columns.items ++ other_columns l.keys (take l.column-index l.source)
