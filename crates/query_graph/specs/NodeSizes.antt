-- The declared rows and the columns of an operator, from those of its sources, with its bounds and without them.
use Rattle.std.specs.Prelude.{◌≡◌, ℕ, ◌+◌, ◌-◌, ◌*◌, ◌<◌, ◌≤◌, true, List, Some, None, length, map, slice_get, slice_index, sum}
use Rattle.std.specs.List.{All}
use Rattle.std.specs.Option.{option_map_or}
use Rattle.query_text.specs.Grammar.{IsMaybeParty}
use Rattle.query_graph.specs.declared.node.Node.{Node}
use Rattle.query_graph.specs.declared.operator.Operator.{Operator}
use Rattle.query_graph.specs.declared.operator.Operator.TheVariants.{Relation, Filter, Select, Concat, Join, Group, Distinct}
use Rattle.query_graph.specs.Content.{Content}
use Rattle.query_graph.specs.IsGraph.{IsGraph, rows_at}
use Rattle.query_graph.specs.Observers.{at_most_of, clear_at_of, parts_at_most_of, sources_of, via_of}
use Rattle.query_graph.specs.Sizes.{bounded, group_rows, is_bound}

-- the rows before any bound: those of the source, the sum or the product of those of the sources, and 1 for a
-- group without keys; the rows of a relation are written
abbrev pub unbounded_size : Operator → List ℕ → ℕ
unbounded_size (Relation r) sizes = 0
unbounded_size (Filter f) sizes = slice_index sizes 0
unbounded_size (Select s) sizes = slice_index sizes 0
unbounded_size (Concat c) sizes = sum sizes
unbounded_size (Join j) sizes = slice_index sizes 0 * slice_index sizes 1
unbounded_size (Group g) sizes = group_rows g.keys None (slice_index sizes 0)
unbounded_size (Distinct d) sizes = slice_index sizes 0

-- the rows under the bound on parts, which a group with keys alone has, and then under the bound of the node
abbrev pub node_size : Operator → List ℕ → ℕ
node_size (Relation r) sizes = 0
node_size (Filter f) sizes = bounded f.at_most (slice_index sizes 0)
node_size (Select s) sizes = slice_index sizes 0
node_size (Concat c) sizes = sum sizes
node_size (Join j) sizes = bounded j.at_most (slice_index sizes 0 * slice_index sizes 1)
node_size (Group g) sizes = bounded g.at_most (group_rows g.keys g.parts_at_most (slice_index sizes 0))
node_size (Distinct d) sizes = bounded d.at_most (slice_index sizes 0)

-- how many columns it has; the columns of a relation are written
abbrev pub node_width : Operator → List ℕ → ℕ
node_width (Relation r) widths = 0
node_width (Filter f) widths = slice_index widths 0
node_width (Select s) widths = length s.items
node_width (Concat c) widths = slice_index widths 0
node_width (Join j) widths = slice_index widths 0 + slice_index widths 1 - length j.keys
node_width (Group g) widths = length g.keys + length g.aggregates
node_width (Distinct d) widths = slice_index widths 0

-- the columns of the node with this number, how many
abbrev pub width_at : List Node → ℕ → ℕ
width_at nodes s = option_map_or (λ n. length n.columns) (slice_get nodes s) 0

-- this node of a graph
pub record IsNodeOf (graph : Content) (i : ℕ) (node : Node) : Type 0 where
  pub is_graph : IsGraph graph
  pub is_node : slice_get graph.nodes i ≡ Some node

-- in every graph a node with sources has the rows and as many columns as its operator says of theirs
pub record NodesHaveSizes : Type 0 where
  pub rows : (graph : Content) (i : ℕ) (node : Node) → IsNodeOf graph i node → 0 < length (sources_of node.shape)
      → node.rows ≡ node_size node.shape (map (rows_at graph.nodes) (sources_of node.shape))
  pub columns : (graph : Content) (i : ℕ) (node : Node) → IsNodeOf graph i node → 0 < length (sources_of node.shape)
      → length node.columns ≡ node_width node.shape (map (width_at graph.nodes) (sources_of node.shape))

-- bounds only make a node smaller, and where none is written, its size is the one without them
pub record BoundsMakeSmaller : Type 0 where
  pub smaller : (shape : Operator) (sizes : List ℕ) → node_size shape sizes ≤ unbounded_size shape sizes
  pub same : (shape : Operator) (sizes : List ℕ) → at_most_of shape ≡ None → parts_at_most_of shape ≡ None → node_size shape sizes ≡ unbounded_size shape sizes

-- in every graph the sources of a node are earlier nodes, and bounds and parties are ones that can be written
pub record NodesAreWritten : Type 0 where
  pub sources : (graph : Content) (i : ℕ) (node : Node) → IsNodeOf graph i node → All (λ s. s < i) (sources_of node.shape)
  pub at_most : (graph : Content) (i : ℕ) (node : Node) → IsNodeOf graph i node → is_bound (at_most_of node.shape) ≡ true
  pub parts_at_most : (graph : Content) (i : ℕ) (node : Node) → IsNodeOf graph i node → is_bound (parts_at_most_of node.shape) ≡ true
  pub clear_at : (graph : Content) (i : ℕ) (node : Node) → IsNodeOf graph i node → IsMaybeParty (clear_at_of node.shape)
  pub via : (graph : Content) (i : ℕ) (node : Node) → IsNodeOf graph i node → IsMaybeParty (via_of node.shape)
