-- Laws of graphs.
use Rattle.std.specs.Prelude.{◌≡◌, ℕ, Some, slice_get}
use Rattle.words.specs.declared.column.Column.{Column}
use Rattle.query_graph.specs.declared.node.Node.{Node}
use Rattle.query_graph.specs.Content.{Content}
use Rattle.query_graph.specs.IsGraph.{IsGraph}
use Rattle.query_graph.specs.Names.{column_number, node_number}

-- in every graph the number of a name is the one place at which it stands: that of the node, and within a
-- node that of the column
pub record NamesAreNumbers : Type 0 where
  pub nodes : (graph : Content) → IsGraph graph → (i : ℕ) (n : Node) → slice_get graph.nodes i ≡ Some n → node_number graph.nodes n.name ≡ i
  pub columns : (graph : Content) → IsGraph graph → (i : ℕ) (n : Node) → slice_get graph.nodes i ≡ Some n
      → (j : ℕ) (c : Column) → slice_get n.columns j ≡ Some c → column_number n.columns c.name ≡ j
