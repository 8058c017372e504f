use Rattle.std.proofs.Common.{◌≡◌, drop}
use Rattle.query_graph.specs.Shapes.{same_columns}
use Rattle.query_graph.proofs.shapes.same_columns.Given as goal

-- both are the same exactly where the rest is
abbrev pub invariant-loop-index : goal.invariant-loop-index
invariant-loop-index l = same_columns l.left l.right ≡ same_columns (drop l.index l.left) (drop l.index l.right)
