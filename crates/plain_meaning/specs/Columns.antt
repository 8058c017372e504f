-- The columns of a node, with names and kinds, from those of its sources.
use Rattle.std.specs.Prelude.{◌≡◌, ℕ, Bool, true, false, List, [], ◌++◌, Some, length, map, take, drop, slice_get}
use Rattle.std.specs.List.{All, AllZip}
use Rattle.std.specs.Option.{option_map_or}
use Rattle.words.specs.declared.column.Column.{Column}
use Rattle.query_graph.specs.declared.node.Node.{Node}
use Rattle.query_graph.specs.declared.operator.Group.{Group}
use Rattle.query_graph.specs.declared.operator.Join.{Join}
use Rattle.query_graph.specs.declared.operator.Operator.{Operator}
use Rattle.query_graph.specs.declared.operator.Operator.TheVariants as operators
use Rattle.query_graph.specs.declared.operator.Select.{Select}
use Rattle.query_graph.specs.Content.{Content}
use Rattle.query_graph.specs.IsGraph.{Gathers, Makes}
use Rattle.query_graph.specs.NodeSizes.{IsNodeOf}
use Rattle.query_graph.specs.Observers.{sources_of}
use Rattle.plain_operators.specs.Columns.{other_columns}
use Rattle.plain_operators.specs.Operators.{left_keys, right_keys}

-- the columns of the node with this number
abbrev pub columns_at : List Node → ℕ → List Column
columns_at nodes s = option_map_or (λ n. n.columns) (slice_get nodes s) []

-- whether an operator has the columns of its sources
abbrev pub keeps_columns : Operator → Bool
keeps_columns (operators.Relation r) = false
keeps_columns (operators.Filter f) = true
keeps_columns (operators.Select s) = false
keeps_columns (operators.Concat c) = true
keeps_columns (operators.Join j) = false
keeps_columns (operators.Group g) = false
keeps_columns (operators.Distinct d) = true

-- of a join the keys, then the left's other columns, then the right's
pub record HasJoinedColumns (left right : List Column) (keys : List (ℕ × ℕ)) (columns : List Column) : Type 0 where
  pub all : map Some columns
      ≡ map (slice_get left) (left_keys keys) ++ (map (slice_get left) (other_columns (left_keys keys) (length left)) ++ map (slice_get right) (other_columns (right_keys keys) (length right)))

-- of a group the keys, then a column of each aggregate
pub record HasGroupedColumns (source : List Column) (g : Group) (columns : List Column) : Type 0 where
  pub keys : map Some (take (length g.keys) columns) ≡ map (slice_get source) g.keys
  pub others : AllZip (Gathers source) g.aggregates (drop (length g.keys) columns)

-- the columns of each node of a graph
pub record NodesHaveColumns : Type 0 where
  pub kept : (graph : Content) (i : ℕ) (node : Node) → IsNodeOf graph i node → keeps_columns node.shape ≡ true → All (λ s. node.columns ≡ columns_at graph.nodes s) (sources_of node.shape)
  pub selected : (graph : Content) (i : ℕ) (node : Node) (s : Select) → IsNodeOf graph i node → node.shape ≡ operators.Select s → AllZip (Makes (columns_at graph.nodes s.source)) s.items node.columns
  pub joined : (graph : Content) (i : ℕ) (node : Node) (j : Join) → IsNodeOf graph i node → node.shape ≡ operators.Join j → HasJoinedColumns (columns_at graph.nodes j.left) (columns_at graph.nodes j.right) j.keys node.columns
  pub grouped : (graph : Content) (i : ℕ) (node : Node) (g : Group) → IsNodeOf graph i node → node.shape ≡ operators.Group g → HasGroupedColumns (columns_at graph.nodes g.source) g node.columns
