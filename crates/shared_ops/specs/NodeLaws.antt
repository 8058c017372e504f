-- What every graph says of its nodes' operators on tables of their sources' widths and rows.
use Rattle.std.specs.Prelude.{◌≡◌, ℕ, ◌<◌, false, None, Some, length, map}
use Rattle.query_graph.specs.declared.node.Node.{Node}
use Rattle.query_graph.specs.declared.operator.Operator.{Operator}
use Rattle.query_graph.specs.Content.{Content}
use Rattle.query_graph.specs.IsGraph.{rows_at}
use Rattle.query_graph.specs.NodeSizes.{IsNodeOf, width_at}
use Rattle.query_graph.specs.Observers.{at_most_of, is_relation, parts_at_most_of, sources_of}
use Rattle.plain_operators.specs.OnSources as on_sources
use Rattle.plain_operators.specs.OnSources.{operator_size, operator_width}
use Rattle.plain_meaning.specs.Operators.{operator_of}
use Rattle.shared_ops.specs.Nodes.{FitsNode}

-- the operator of a node that is no relation is known and has a source; it fits the widths of its sources, has as many columns of theirs as
-- the node, and where no bound is written, as many rows
pub record NodesFitTables : Type 0 where
  pub known : (shape : Operator) → is_relation shape ≡ false → (operator : on_sources.Operator) × (operator_of shape ≡ Some operator)
  pub some : (graph : Content) (i : ℕ) (node : Node) → IsNodeOf graph i node → is_relation node.shape ≡ false → 0 < length (sources_of node.shape)
  pub fits : (graph : Content) (i : ℕ) (node : Node) → IsNodeOf graph i node → is_relation node.shape ≡ false → FitsNode node.shape (map (width_at graph.nodes) (sources_of node.shape))
  pub wide : (graph : Content) (i : ℕ) (node : Node) (operator : on_sources.Operator) → IsNodeOf graph i node → operator_of node.shape ≡ Some operator
      → operator_width operator (map (width_at graph.nodes) (sources_of node.shape)) ≡ length node.columns
  pub rows : (graph : Content) (i : ℕ) (node : Node) (operator : on_sources.Operator) → IsNodeOf graph i node → operator_of node.shape ≡ Some operator
      → at_most_of node.shape ≡ None → parts_at_most_of node.shape ≡ None → operator_size operator (map (rows_at graph.nodes) (sources_of node.shape)) ≡ node.rows
