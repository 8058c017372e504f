-- What is printed of a query over the tables of its relations.
use Rattle.std.specs.Prelude.{◌≡◌, ℕ, List, [], ◌++◌, map, slice_index_or, slice_get, Option, Some, None}
use Rattle.std.specs.List.{flat_map}
use Rattle.plain_meaning.specs.Meaning.{meanings}
use Rattle.query_graph.specs.Content.{Content}
use Rattle.query_graph.specs.declared.node.Node.{Node}
use Rattle.query_graph.specs.declared.node.Output.{Output}
use Rattle.tables.specs.Answer.{answer_of}
use Rattle.tables.specs.Content as table
use Rattle.conclave_top.specs.Lines.{line_end}

-- the name of a node on a line, and the text of its rows
abbrev pub answer : Node → List (List ℕ) → List ℕ
answer node rows = node.name ++ (line_end ++ answer_of (record { columns = node.columns; rows = rows }))

-- the same of the node with this number, by the rows of all nodes
abbrev pub answer_at : List (List (List ℕ)) → ℕ → Option Node → List ℕ
answer_at rows number None = []
answer_at rows number (Some node) = answer node (slice_index_or rows number [])

-- what is printed of an output, by the rows of all nodes
abbrev pub output_text : List Node → List (List (List ℕ)) → Output → List ℕ
output_text nodes rows output = answer_at rows output.node (slice_get nodes output.node)

-- what is printed of outputs, in their order
abbrev pub answers : List Node → List (List (List ℕ)) → List Output → List ℕ
answers nodes rows outputs = flat_map (output_text nodes rows) outputs

-- there is a table for each node, with its columns
abbrev pub AreNodeTables : List Node → List table.Content → Type 0
AreNodeTables nodes tables = map (λ (t : table.Content). t.columns) tables ≡ map (λ (n : Node). n.columns) nodes

-- what is printed of a graph over the tables of its relations
abbrev pub printed : Content → List table.Content → List ℕ
printed graph tables = answers graph.nodes (meanings graph.nodes (map (λ (t : table.Content). t.rows) tables)) graph.outputs
