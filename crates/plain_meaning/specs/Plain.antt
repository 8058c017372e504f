-- The tables of a graph's nodes up to the first with more rows than its bound.
use Rattle.std.specs.Prelude.{◌≡◌, ℕ, ◌+◌, ◌<◌, nat_lt, Bool, true, false, List, [], Option, Some, None, length, map, take, slice_get, slice_index_or}
use Rattle.std.specs.Option.{option_map}
use Rattle.words.specs.declared.column.Column.{Column}
use Rattle.query_graph.specs.declared.node.Node.{Node}
use Rattle.query_graph.specs.declared.operator.Operator.{Operator}
use Rattle.query_graph.specs.Observers.{at_most_of}
use Rattle.tables.specs.Content as table
use Rattle.plain_operators.specs.Limits.{first_of}
use Rattle.plain_meaning.specs.Meaning.{meanings, node_rows, rows_of}

-- the bound `at most` of a node
abbrev pub bound_of : Operator → Option ℕ
bound_of shape = at_most_of shape

-- whether there are more rows than a bound lets through
abbrev pub is_over : Option ℕ → List (List ℕ) → Bool
is_over None rows = false
is_over (Some k) rows = nat_lt k (length rows)

-- how many rows are listed under a bound: one above it, which tells that it is broken
abbrev pub limit_of : Option ℕ → Option ℕ
limit_of bound = option_map (λ k. k + 1) bound

-- the rows of a node as they are listed: no more than one above its bound
abbrev pub listed : Operator → List (List ℕ) → List (List ℕ)
listed shape rows = first_of (limit_of (bound_of shape)) rows

-- the rows of each table
abbrev pub rows_of_tables : List table.Content → List (List (List ℕ))
rows_of_tables tables = map (λ t. t.rows) tables

abbrev pub rows_in : List table.Content → ℕ → List (List ℕ)
rows_in tables number = rows_of (rows_of_tables tables) number

abbrev pub table_of : List Column → List (List ℕ) → table.Content
table_of columns rows = record { columns = columns; rows = rows }

-- the table of an operator as it is listed, from the rows of a relation's file and the tables of all earlier nodes
abbrev pub listed_table : List Column → Operator → List (List ℕ) → List table.Content → table.Content
listed_table columns shape file earlier = table_of columns (listed shape (node_rows shape file (rows_of_tables earlier)))

-- the table of a node as it is listed, from the files that are left and the tables of all earlier nodes
abbrev pub listed_node : List (List (List ℕ)) → List table.Content → Node → table.Content
listed_node files earlier node = listed_table node.columns node.shape (slice_index_or files 0 []) earlier

-- how the tables end: with all nodes, or before the one that is over its bound
abbrev pub Ends : List Node → List (List (List ℕ)) → ℕ → Option ℕ → Type 0
Ends nodes rows count None = count ≡ length nodes
Ends nodes rows count (Some over) = (over ≡ count) × ((node : Node) × (slice_get nodes over ≡ Some node) × (is_over (bound_of node.shape) (rows_of rows over) ≡ true))

-- the tables of a graph's first nodes, each within its bound, and the node that ends them, if one does
pub record IsPlain (nodes : List Node) (world : List (List (List ℕ))) (tables : List table.Content) (over : Option ℕ) : Type 0 where
  pub rows : map (λ t. t.rows) tables ≡ take (length tables) (meanings nodes world)
  pub columns : map (λ t. t.columns) tables ≡ map (λ n. n.columns) (take (length tables) nodes)
  pub within : (i : ℕ) (node : Node) → i < length tables → slice_get nodes i ≡ Some node → is_over (bound_of node.shape) (rows_of (meanings nodes world) i) ≡ false
  pub ends : Ends nodes (meanings nodes world) (length tables) over
