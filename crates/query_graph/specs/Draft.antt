-- The graph of a query's first statements, as it is made.
use Rattle.std.specs.Prelude.{◌≡◌, ◌≢◌, ℕ, ◌^◌, ◌<◌, ◌≤◌, Some, length, slice_get, All, AllPairs}
use Rattle.query_graph.specs.declared.draft.Draft.TheInside.{Inside}
use Rattle.query_graph.specs.declared.node.Node.{Node}
use Rattle.query_graph.specs.Content.{Content}
use Rattle.query_graph.specs.IsGraph.{IsNode, IsOutput}
use Rattle.query_graph.specs.Sizes.{AreNarrow, cell_limit, cells_of}

abbrev pub content_of : Inside → Content
content_of draft = record { nodes = draft.nodes; outputs = draft.outputs.items }

-- what is true of a graph from the first statement on
pub record IsDraft (graph : Content) : Type 0 where
  pub few : length graph.nodes < 2 ^ 32
  pub few_cells : cells_of graph.nodes ≤ cell_limit
  pub names : AllPairs (λ a b. a.name ≢ b.name) graph.nodes
  pub nodes : (i : ℕ) (n : Node) → slice_get graph.nodes i ≡ Some n → IsNode graph.nodes i n
  pub outputs : All (IsOutput graph.nodes) graph.outputs
  pub different_outputs : AllPairs (λ a b. a.node ≢ b.node) graph.outputs

-- the cells of the nodes are counted and few, and so are the nodes and their columns
pub record IsBuilt (inside : Inside) : Type 0 where
  pub graph : IsDraft (content_of inside)
  pub counted : inside.cells ≡ cells_of inside.nodes
  pub few_cells : inside.cells ≤ cell_limit
  pub few : length inside.nodes < 2 ^ 32
  pub narrow : AreNarrow inside.nodes
