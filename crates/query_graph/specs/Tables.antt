-- How tables of names fit nodes and columns.
use Rattle.std.specs.Prelude.{◌≡◌, ℕ, List, [], map, option_copied, unwrap_or}
use Rattle.words.specs.declared.column.Column.{Column}
use Rattle.query_graph.specs.declared.nodes.Nodes.TheInside as nodes
use Rattle.query_graph.specs.declared.source.Source.TheInside as source

-- the names of columns
abbrev pub column_names : List Column → List (List ℕ)
column_names columns = map (λ c. c.name) columns

-- the table of a source has the names of its columns
abbrev pub HasColumnNames : source.Inside → Type 0
HasColumnNames inside = unwrap_or (option_copied inside.names) [] ≡ column_names inside.columns.now

-- the tables of nodes have their names, and those of the columns of each
pub record HasNodeNames (inside : nodes.Inside) : Type 0 where
  pub nodes : inside.names ≡ map (λ n. n.name) inside.list.items
  pub columns : inside.columns.items ≡ map (λ n. column_names n.columns) inside.list.items
