-- The line of each refusal.
use Rattle.std.specs.Prelude.{ℕ, Option, Some, None, slice_get, List, [], ◌∷◌, ◌++◌, codes}
use Rattle.std.specs.Fmt.{decimal}
use Rattle.query_graph.specs.declared.fault.GraphFault.{GraphFault}
use Rattle.query_graph.specs.declared.fault.GraphFault.TheVariants as graphs
use Rattle.query_graph.specs.declared.node.Node.{Node}
use Rattle.trust_sets.specs.declared.fault.TrustFault.{TrustFault}
use Rattle.trust_sets.specs.declared.fault.TrustFault.TheVariants as trusts
use Rattle.words.specs.declared.column.Column.{Column}

-- a line feed
abbrev pub line_end : List ℕ
line_end = 10 ∷ []

-- the line of a text that stops being a query here
abbrev pub text_refused : ℕ → ℕ → List ℕ
text_refused line column = codes "refused: Q1 line " ++ (decimal line ++ (codes " column " ++ (decimal column ++ (codes ": text" ++ line_end))))

-- the line of a rule that the query's graph breaks; want of memory is no rule
abbrev pub graph_refused : GraphFault → List ℕ
graph_refused (graphs.Unknown line name) = (codes "refused: Q2 line " ++ (decimal line ++ codes ": ")) ++ (name ++ (codes " is unknown" ++ line_end))
graph_refused (graphs.Taken line name) = (codes "refused: Q3 line " ++ (decimal line ++ codes ": ")) ++ (name ++ (codes " is taken" ++ line_end))
graph_refused (graphs.Kind line) = codes "refused: Q4 line " ++ (decimal line ++ (codes ": kind" ++ line_end))
graph_refused (graphs.Shape line) = codes "refused: Q5 line " ++ (decimal line ++ (codes ": shape" ++ line_end))
graph_refused (graphs.Size line) = codes "refused: Q6 line " ++ (decimal line ++ (codes ": size" ++ line_end))
graph_refused graphs.NoOutput = codes "refused: Q10: no output" ++ line_end
graph_refused graphs.Memory = []

-- the name of the node with this number, and of a column of it
abbrev pub name_of_node : Option Node → List ℕ
name_of_node None = []
name_of_node (Some node) = node.name

abbrev pub name_of_column : Option Column → List ℕ
name_of_column None = []
name_of_column (Some column) = column.name

abbrev pub column_of_node : Option Node → ℕ → List ℕ
column_of_node None column = []
column_of_node (Some node) column = name_of_column (slice_get node.columns column)

-- the line of a statement that names a party for work that it isn't trusted with
abbrev pub untrusted : List Node → ℕ → ℕ → ℕ → ℕ → List ℕ
untrusted nodes line origin party column =
    ((codes "refused: Q8 line " ++ (decimal line ++ (codes ": party " ++ (decimal party ++ codes " isn't trusted with ")))) ++ (column_of_node (slice_get nodes origin) column ++ codes " of "))
    ++ (name_of_node (slice_get nodes origin) ++ line_end)

-- the line of an output to a party to which a relation under it isn't released
abbrev pub unreleased : List Node → ℕ → ℕ → ℕ → List ℕ
unreleased nodes line party relation =
    (codes "refused: Q9 line " ++ (decimal line ++ (codes ": party " ++ (decimal party ++ codes " isn't in the release set of ")))) ++ (name_of_node (slice_get nodes relation) ++ line_end)

-- the line of a statement that asks for more than trust or release allows
abbrev pub trust_refused : List Node → TrustFault → List ℕ
trust_refused nodes (trusts.Trust line node origin party column) = untrusted nodes line origin party column
trust_refused nodes (trusts.Release line output party relation) = unreleased nodes line party relation
