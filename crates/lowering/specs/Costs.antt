-- The most AND words of a query whose nodes are all worked on shares.
use Rattle.std.specs.Prelude.{◌≡◌, ℕ, ◌+◌, ◌*◌, ◌≤◌, List, Some, length, map, slice_get, sum}
use Rattle.query_graph.specs.Content.{Content}
use Rattle.query_graph.specs.IsGraph.{rows_at}
use Rattle.query_graph.specs.NodeSizes.{width_at}
use Rattle.query_graph.specs.Observers.{sources_of}
use Rattle.query_graph.specs.declared.node.Node.{Node}
use Rattle.query_graph.specs.declared.node.Output.{Output}
use Rattle.query_graph.specs.declared.operator.Operator.{Operator}
use Rattle.shared_ops.specs.Nodes as operators

-- the rows and the columns of an operator's sources
abbrev pub source_sizes : List Node → Operator → List ℕ
source_sizes nodes shape = map (rows_at nodes) (sources_of shape)

abbrev pub source_widths : List Node → Operator → List ℕ
source_widths nodes shape = map (width_at nodes) (sources_of shape)

-- a node: that of its operator on its sources; a relation has none
abbrev pub node_cost : List Node → Node → ℕ
node_cost nodes node = operators.node_cost node.shape (source_sizes nodes node.shape) (source_widths nodes node.shape)

-- an output: each word of its node's columns
abbrev pub output_cost : List Node → Output → ℕ
output_cost nodes output = rows_at nodes output.node * width_at nodes output.node

abbrev pub shared_cost : Content → ℕ
shared_cost graph = sum (map (node_cost graph.nodes) graph.nodes) + sum (map (output_cost graph.nodes) graph.outputs)

-- nodes of at most as many rows and columns as can be written
pub record IsSmall (node : Node) : Type 0 where
  pub rows : node.rows ≤ 65536
  pub columns : length node.columns ≤ 32

abbrev pub AreSmall : List Node → Type 0
AreSmall nodes = (i : ℕ) (node : Node) → slice_get nodes i ≡ Some node → IsSmall node
