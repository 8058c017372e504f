-- What holds of the parts of each node of a graph, each law as one statement.
use Rattle.std.specs.Prelude.{◌≡◌, ◌≢◌, ℕ, ◌≤◌, List, None, Some, length, slice_get, sum_by}
use Rattle.std.specs.List.{AllZip, flat_map}
use Rattle.query_graph.specs.declared.node.Node.{Node}
use Rattle.query_graph.specs.Content as graph_content
use Rattle.query_graph.specs.IsGraph.{IsGraph}
use Rattle.query_graph.specs.NodeSizes.{IsNodeOf}
use Rattle.query_graph.specs.Observers.{at_most_of}
use Rattle.bags.specs.Bag.{SameBag}
use Rattle.plain_meaning.specs.Fits.{IsWorldOf}
use Rattle.plain_meaning.specs.Laws.{IsNodeOver}
use Rattle.plain_meaning.specs.Meaning.{meanings, rows_of}
use Rattle.trust_sets.specs.Agreement.{FilesAgree}
use Rattle.trust_sets.specs.Known.{known_at, known_nodes}
use Rattle.trust_sets.specs.Steps.{SameIfKnown}
use Rattle.rewrites.specs.declared.part.Part.{Part}
use Rattle.rewrites.specs.Parts.{node_parts, parts_at, parts_of}
use Rattle.rewrites.specs.PartRows.{pieces_at, pieces_of}
use Rattle.rewrites.specs.Rewritten.{rewritten_of}

-- a graph's nodes each have parts, one at least, and are up or not; the parts of a node come from those of its sources
pub record NodesHaveParts : Type 0 where
  pub parts : (graph : graph_content.Content) → length (rewritten_of graph).parts ≡ length graph.nodes
  pub up : (graph : graph_content.Content) → length (rewritten_of graph).up ≡ length graph.nodes
  pub some : (graph : graph_content.Content) (i : ℕ) (node : Node) → IsNodeOf graph i node → 1 ≤ length (parts_at (parts_of graph.nodes) i)
  pub from_sources : (graph : graph_content.Content) (i : ℕ) (node : Node) → IsNodeOf graph i node → parts_at (parts_of graph.nodes) i ≡ node_parts node (parts_of graph.nodes)

-- no node has both several parts and a bound `at most`
abbrev pub SplitNodesAreUnbounded : List Node → Type 0
SplitNodesAreUnbounded nodes = (i : ℕ) (node : Node) → slice_get nodes i ≡ Some node → length (parts_at (parts_of nodes) i) ≢ 1 → at_most_of node.shape ≡ None

-- where the bounds stand on whole nodes alone, the rows of a node's parts add up to its own
abbrev pub PartsAddUp : Type 0
PartsAddUp = (graph : graph_content.Content) (i : ℕ) (node : Node) → IsNodeOf graph i node → SplitNodesAreUnbounded graph.nodes
    → sum_by (λ (part : Part). part.rows) (parts_at (parts_of graph.nodes) i) ≡ node.rows

-- a node has the rows of a part for each of its parts, whatever the rows of the nodes; and in every world these are, one
-- part after the other, its plain rows: as a list, and so as a bag
pub record PartsAreRows : Type 0 where
  pub each : (graph : graph_content.Content) (rows : List (List (List ℕ))) (i : ℕ) (node : Node) → IsNodeOf graph i node
      → length (pieces_at (pieces_of graph.nodes rows) i) ≡ length (parts_at (parts_of graph.nodes) i)
  pub rows : (graph : graph_content.Content) (world : List (List (List ℕ))) (i : ℕ) (node : Node) → IsNodeOver graph world i node
      → flat_map (λ rows. rows) (pieces_at (pieces_of graph.nodes (meanings graph.nodes world)) i) ≡ rows_of (meanings graph.nodes world) i
  pub bag : (graph : graph_content.Content) (world : List (List (List ℕ))) (i : ℕ) (node : Node) → IsNodeOver graph world i node
      → SameBag (flat_map (λ rows. rows) (pieces_at (pieces_of graph.nodes (meanings graph.nodes world)) i)) (rows_of (meanings graph.nodes world) i)

-- in two worlds whose files agree for a party, each part of a node whose rows it may know is the same for it
abbrev pub PartsAreKnown : Type 0
PartsAreKnown = (graph : graph_content.Content) (party : ℕ) (world other : List (List (List ℕ))) → IsGraph graph → IsWorldOf graph.nodes world → IsWorldOf graph.nodes other
    → FilesAgree graph.nodes (known_nodes graph.nodes) party world other
    → (node : ℕ) → AllZip (SameIfKnown party (known_at (known_nodes graph.nodes) node)) (pieces_at (pieces_of graph.nodes (meanings graph.nodes world)) node) (pieces_at (pieces_of graph.nodes (meanings graph.nodes other)) node)
