use Rattle.std.proofs.Common.{◌≡◌, ◌++◌, take}
use Rattle.query_graph.proofs.columns.add_all.Given as goal

-- the columns so far were added
abbrev pub invariant-loop-column : goal.invariant-loop-column
invariant-loop-column l = l.columns.items ≡ l.fn.columns.items ++ take l.column-index l.source
