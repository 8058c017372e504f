-- What the names of a query stand for: columns of a source, and nodes.
use Rattle.std.specs.Prelude.{ℕ, Bool, not, if◌then◌else◌, List, [], ◌∷◌}
use Rattle.std.specs.List.{list_any, prefix_len}
use Rattle.std.specs.Str.{bytes_eq}
use Rattle.words.specs.declared.column.Column.{Column}
use Rattle.words.specs.declared.column.Kind.{Kind}
use Rattle.words.specs.declared.column.Kind.TheVariants.{Num}
use Rattle.query_graph.specs.declared.node.Node.{Node}

-- the name is one of these
abbrev pub is_among : List (List ℕ) → List ℕ → Bool
is_among names name = list_any (λ other. bytes_eq other name) names

-- how many of these names stand before this one
abbrev pub name_number : List (List ℕ) → List ℕ → ℕ
name_number names name = prefix_len (λ other. not (bytes_eq other name)) names

-- a column has this name
abbrev pub is_column : List Column → List ℕ → Bool
is_column columns name = list_any (λ c. bytes_eq c.name name) columns

-- the number of the column with this name: how many stand before it
abbrev pub column_number : List Column → List ℕ → ℕ
column_number columns name = prefix_len (λ c. not (bytes_eq c.name name)) columns

-- the kind of the column with this name; num where there is none
abbrev pub column_kind : List Column → List ℕ → Kind
column_kind [] name = Num
column_kind (c ∷ columns) name = if bytes_eq c.name name then c.kind else column_kind columns name

-- a node has this name
abbrev pub is_node : List Node → List ℕ → Bool
is_node nodes name = list_any (λ n. bytes_eq n.name name) nodes

-- the number of the node with this name: how many stand before it
abbrev pub node_number : List Node → List ℕ → ℕ
node_number nodes name = prefix_len (λ n. not (bytes_eq n.name name)) nodes

-- the columns of the node with this name; none where there is no such node
abbrev pub node_columns : List Node → List ℕ → List Column
node_columns [] name = []
node_columns (n ∷ nodes) name = if bytes_eq n.name name then n.columns else node_columns nodes name

-- the rows of the node with this name; none where there is no such node
abbrev pub node_rows : List Node → List ℕ → ℕ
node_rows [] name = 0
node_rows (n ∷ nodes) name = if bytes_eq n.name name then n.rows else node_rows nodes name
