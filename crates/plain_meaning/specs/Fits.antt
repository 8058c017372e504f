-- Which tables are those of a graph's relations.
use Rattle.std.specs.Prelude.{◌≡◌, ℕ, ◌+◌, ◌<◌, ◌≤◌, List, [], length, map, take, slice_index, slice_index_or}
use Rattle.std.specs.List.{All, AllZip, filter}
use Rattle.tables.specs.Content as table
use Rattle.query_graph.specs.declared.node.Node.{Node}
use Rattle.query_graph.specs.declared.operator.Filter.{Filter}
use Rattle.query_graph.specs.declared.operator.Select.{Select}
use Rattle.query_graph.specs.declared.operator.Concat.{Concat}
use Rattle.query_graph.specs.declared.operator.Join.{Join}
use Rattle.query_graph.specs.declared.operator.Group.{Group}
use Rattle.query_graph.specs.declared.operator.Distinct.{Distinct}
use Rattle.query_graph.specs.declared.operator.Operator.{Operator}
use Rattle.query_graph.specs.declared.operator.Operator.TheVariants as operators
use Rattle.plain_operators.specs.Operators.{left_keys, right_keys}
use Rattle.plain_operators.specs.Sizes.{IsOfWords, joined_width}
use Rattle.plain_operators.specs.Within.{HasColumns, IsAggregateOf, IsItemOf, IsTestOf}
use Rattle.plain_meaning.specs.Convert.{aggregate_of, item_of, test_of}
use Rattle.query_graph.specs.Observers.{is_relation}

-- the relations of a graph, in the order of the text
abbrev pub relations : List Node → List Node
relations nodes = filter (λ node. is_relation node.shape) nodes

-- a table with the columns of this relation, and at most its rows; of each table the rows are as long as the columns
-- and of words
pub record IsFileOf (node : Node) (file : table.Content) : Type 0 where
  pub columns : file.columns ≡ node.columns
  pub rows : length file.rows ≤ node.rows
  pub rectangular : table.IsRectangular file
  pub words : table.HasWords file

-- as many tables as there are relations, and each is its relation's
abbrev pub AreFiles : List Node → List table.Content → Type 0
AreFiles nodes files = AllZip IsFileOf (relations nodes) files

-- tables whose rows are of words
abbrev pub AreOfWords : List table.Content → Type 0
AreOfWords files = All table.HasWords files

-- rows of words, of the width of this relation, and at most as many as it has
pub record AreRowsOf (node : Node) (rows : List (List ℕ)) : Type 0 where
  pub wide : All (λ row. length row ≡ length node.columns) rows
  pub few : length rows ≤ node.rows
  pub words : All IsOfWords rows

-- a world of these nodes: as many lists of rows as there are relations, and each is its relation's
abbrev pub IsWorldOf : List Node → List (List (List ℕ)) → Type 0
IsWorldOf nodes world = AllZip AreRowsOf (relations nodes) world

-- the widths of tables
abbrev pub widths_of : List table.Content → List ℕ
widths_of tables = map (λ t. length t.columns) tables

abbrev pub width_at : List ℕ → ℕ → ℕ
width_at widths node = slice_index widths node

abbrev pub width_in : List table.Content → ℕ → ℕ
width_in tables number = width_at (widths_of tables) number

-- the widths of the first nodes, so many
abbrev pub widths_before : List Node → ℕ → List ℕ
widths_before nodes i = map (λ n. length n.columns) (take i nodes)

-- over earlier tables of these widths, an operator whose rows have this width
pub record FitsFilter (widths : List ℕ) (width : ℕ) (f : Filter) : Type 0 where
  pub source : f.source < length widths
  pub same : width_at widths f.source ≡ width
  pub tests : All (IsTestOf width) (map test_of f.tests)

pub record FitsSelect (widths : List ℕ) (width : ℕ) (s : Select) : Type 0 where
  pub source : s.source < length widths
  pub items : All (IsItemOf (width_at widths s.source)) (map item_of s.items)
  pub same : length s.items ≡ width

pub record FitsConcat (widths : List ℕ) (width : ℕ) (c : Concat) : Type 0 where
  pub sources : All (λ s. s < length widths) c.sources
  pub same : All (λ s. width_at widths s ≡ width) c.sources

pub record FitsJoin (widths : List ℕ) (width : ℕ) (j : Join) : Type 0 where
  pub left : j.left < length widths
  pub right : j.right < length widths
  pub left_keys : HasColumns (left_keys j.keys) (width_at widths j.left)
  pub right_keys : HasColumns (right_keys j.keys) (width_at widths j.right)
  pub same : joined_width j.keys (width_at widths j.left) (width_at widths j.right) ≡ width

pub record FitsGroup (widths : List ℕ) (width : ℕ) (g : Group) : Type 0 where
  pub source : g.source < length widths
  pub keys : HasColumns g.keys (width_at widths g.source)
  pub aggregates : All (IsAggregateOf (width_at widths g.source)) (map aggregate_of g.aggregates)
  pub same : length g.keys + length g.aggregates ≡ width

pub record FitsDistinct (widths : List ℕ) (width : ℕ) (d : Distinct) : Type 0 where
  pub source : d.source < length widths
  pub same : width_at widths d.source ≡ width

-- a relation takes the first of the files that are left
pub record FitsRelation (files : List (List (List ℕ))) (width : ℕ) : Type 0 where
  pub some : 0 < length files
  pub wide : All (λ row. length row ≡ width) (slice_index_or files 0 [])

-- an operator over the files that are left and earlier tables
abbrev pub FitsEarlier : List (List (List ℕ)) → List ℕ → ℕ → Operator → Type 0
FitsEarlier files widths width (operators.Relation r) = FitsRelation files width
FitsEarlier files widths width (operators.Filter f) = FitsFilter widths width f
FitsEarlier files widths width (operators.Select s) = FitsSelect widths width s
FitsEarlier files widths width (operators.Concat c) = FitsConcat widths width c
FitsEarlier files widths width (operators.Join j) = FitsJoin widths width j
FitsEarlier files widths width (operators.Group g) = FitsGroup widths width g
FitsEarlier files widths width (operators.Distinct d) = FitsDistinct widths width d

-- a node over the files that are left and earlier tables
abbrev pub FitsAfter : List (List (List ℕ)) → List table.Content → Node → Type 0
FitsAfter files earlier node = FitsEarlier files (widths_of earlier) (length node.columns) node.shape
