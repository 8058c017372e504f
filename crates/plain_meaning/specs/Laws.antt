-- What holds of the rows of each node of a graph, each law as one statement.
use Rattle.std.specs.Prelude.{◌≡◌, ℕ, ◌+◌, ◌*◌, ◌<◌, ◌≤◌, true, false, List, Option, Some, None, length, take, slice_get}
use Rattle.std.specs.List.{All}
use Rattle.std.specs.Option.{option_map}
use Rattle.query_graph.specs.Content as graph_content
use Rattle.query_graph.specs.IsGraph.{IsGraph}
use Rattle.query_graph.specs.declared.node.Node.{Node}
use Rattle.query_graph.specs.declared.operator.Operator.{Operator}
use Rattle.plain_operators.specs.Sizes.{AllWide, IsOfWords}
use Rattle.tables.specs.Content as table
use Rattle.plain_meaning.specs.Fits.{AreFiles, FitsEarlier, FitsRelation, IsWorldOf, relations, widths_before}
use Rattle.query_graph.specs.Observers.{is_relation, parts_at_most_of}
use Rattle.plain_meaning.specs.Meaning.{meanings, node_rows, rows_of}
use Rattle.plain_meaning.specs.Plain.{bound_of, is_over, rows_of_tables}

-- the most rows of a group whose rows come in three parts, each under a bound
abbrev pub parts_bound_of : Operator → Option ℕ
parts_bound_of shape = option_map (λ k. 3 * k) (parts_at_most_of shape)

-- rows of a node that break none of its bounds
pub record KeepBounds (shape : Operator) (rows : List (List ℕ)) : Type 0 where
  pub bound : is_over (bound_of shape) rows ≡ false
  pub parts : is_over (parts_bound_of shape) rows ≡ false

-- none of the first nodes, so many, breaks a bound
abbrev pub FirstKeepBounds : List Node → List (List (List ℕ)) → ℕ → Type 0
FirstKeepBounds nodes world count = (i : ℕ) (node : Node) → i < count → slice_get nodes i ≡ Some node → KeepBounds node.shape (rows_of (meanings nodes world) i)

-- how many relations stand before this node: the number of the file of a relation
abbrev pub relations_before : List Node → ℕ → ℕ
relations_before nodes i = length (relations (take i nodes))

-- the node with this number in a graph, over a world of it
pub record IsNodeOver (graph : graph_content.Content) (world : List (List (List ℕ))) (i : ℕ) (node : Node) : Type 0 where
  pub is_graph : IsGraph graph
  pub is_world : IsWorldOf graph.nodes world
  pub is_node : slice_get graph.nodes i ≡ Some node

-- the rows of a node are those of its operator, from the rows of the file of a relation and of all earlier nodes
abbrev pub NodesMeanOperators : Type 0
NodesMeanOperators = (graph : graph_content.Content) (world : List (List (List ℕ))) (i : ℕ) (node : Node) → IsNodeOver graph world i node
    → rows_of (meanings graph.nodes world) i ≡ node_rows node.shape (rows_of world (relations_before graph.nodes i)) (take i (meanings graph.nodes world))

-- a node's operator fits the widths of the earlier nodes, over any files of which the first is as wide as a relation
abbrev pub NodesFitEarlier : Type 0
NodesFitEarlier = (graph : graph_content.Content) (i : ℕ) (node : Node) (files : List (List (List ℕ))) → IsGraph graph → slice_get graph.nodes i ≡ Some node
    → (is_relation node.shape ≡ true → FitsRelation files (length node.columns)) → FitsEarlier files (widths_before graph.nodes i) (length node.columns) node.shape

-- the rows of a node are as wide as its columns
abbrev pub NodesAreWide : Type 0
NodesAreWide = (graph : graph_content.Content) (world : List (List (List ℕ))) (i : ℕ) (node : Node) → IsNodeOver graph world i node
    → AllWide (length node.columns) (rows_of (meanings graph.nodes world) i)

-- they are at most its declared rows, where neither it nor an earlier node breaks a bound
abbrev pub NodesKeepSizes : Type 0
NodesKeepSizes = (graph : graph_content.Content) (world : List (List (List ℕ))) (i : ℕ) (node : Node) → IsNodeOver graph world i node
    → FirstKeepBounds graph.nodes world (i + 1) → length (rows_of (meanings graph.nodes world) i) ≤ node.rows

-- and their words are below 2^64, where no earlier node breaks a bound
abbrev pub NodesAreOfWords : Type 0
NodesAreOfWords = (graph : graph_content.Content) (world : List (List (List ℕ))) (i : ℕ) (node : Node) → IsNodeOver graph world i node
    → FirstKeepBounds graph.nodes world i → All IsOfWords (rows_of (meanings graph.nodes world) i)

-- the files of a graph, as rows, are a world of it
abbrev pub FilesAreWorlds : Type 0
FilesAreWorlds = (nodes : List Node) (files : List table.Content) → AreFiles nodes files → IsWorldOf nodes (rows_of_tables files)
