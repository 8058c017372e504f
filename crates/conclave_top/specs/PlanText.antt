-- What `plan` prints of a graph: who may know what of each node, and who gets each output.
use Rattle.std.specs.Prelude.{ℕ, ◌+◌, List, [], ◌∷◌, ◌++◌, filter, map, slice_get, codes}
use Rattle.std.specs.Fmt.{decimal}
use Rattle.std.specs.List.{flat_map}
use Rattle.words.specs.declared.column.Column.{Column}
use Rattle.query_graph.specs.declared.node.Node.{Node}
use Rattle.query_graph.specs.declared.node.Output.{Output}
use Rattle.query_graph.specs.declared.operator.Operator.{Operator}
use Rattle.query_graph.specs.declared.operator.Operator.TheVariants as operators
use Rattle.query_graph.specs.declared.parties.Parties.{Parties}
use Rattle.query_graph.specs.Content.{Content}
use Rattle.query_graph.specs.IsGraph.{rows_at}
use Rattle.query_graph.specs.Parties.{has}
use Rattle.trust_sets.specs.declared.known.Known.{Known}
use Rattle.trust_sets.specs.Known.{column_set, known_at, known_nodes}
use Rattle.conclave_top.specs.Due.{does}
use Rattle.conclave_top.specs.Job.{Job, only}
use Rattle.conclave_top.specs.Lines.{line_end}
use Rattle.lowering.specs.Lines.{name_of_node}

-- the parties of a set in rising order
abbrev pub members : Parties → List ℕ
members set = filter (has set) (1 ∷ 2 ∷ 3 ∷ [])

-- the byte of a party's digit
abbrev pub digit : ℕ → ℕ
digit party = 48 + party

-- the digits of parties, or a dash where there are none
abbrev pub digits_or_dash : List ℕ → List ℕ
digits_or_dash [] = codes "-"
digits_or_dash (party ∷ parties) = map digit (party ∷ parties)

abbrev pub set_text : Parties → List ℕ
set_text set = digits_or_dash (members set)

-- the word of a node's statement
abbrev pub operator_word : Operator → List ℕ
operator_word (operators.Relation r) = codes "relation"
operator_word (operators.Filter f) = codes "filter"
operator_word (operators.Select s) = codes "select"
operator_word (operators.Concat c) = codes "concat"
operator_word (operators.Join j) = codes "join"
operator_word (operators.Group g) = codes "group"
operator_word (operators.Distinct d) = codes "distinct"

-- a column, and who may know it
abbrev pub column_text : Column → Parties → List ℕ
column_text column set = codes " " ++ (column.name ++ (codes " " ++ set_text set))

-- the same of each column, from this number on
abbrev pub columns_text : Known → ℕ → List Column → List ℕ
columns_text known number [] = []
columns_text known number (column ∷ columns) = column_text column (column_set known number) ++ columns_text known (number + 1) columns

-- the line of a node that these may know
abbrev pub node_line : Node → Known → List ℕ
node_line node known =
    node.name ++ (codes " " ++ (operator_word node.shape ++ (codes " rows " ++ (decimal node.rows ++ (codes " know " ++ (set_text known.rows ++ (columns_text known 0 node.columns ++ line_end)))))))

-- the lines of nodes, from this number on
abbrev pub node_lines : List Known → ℕ → List Node → List ℕ
node_lines known number [] = []
node_lines known number (node ∷ nodes) = node_line node (known_at known number) ++ node_lines known (number + 1) nodes

-- the line of an output: the name of its node, its recipients, and the rows of the node
abbrev pub output_line : List Node → Output → List ℕ
output_line nodes output =
    codes "output " ++ (name_of_node (slice_get nodes output.node) ++ (codes " to " ++ (set_text output.recipients ++ (codes " rows " ++ (decimal (rows_at nodes output.node) ++ line_end)))))

-- a line for each node and then one for each output, both in their order
abbrev pub plan_text : Content → List ℕ
plan_text graph = node_lines (known_nodes graph.nodes) 0 graph.nodes ++ flat_map (output_line graph.nodes) graph.outputs

-- what `plan` has to do on the graph of its query: to print this, and nothing else
abbrev pub plan_job : Content → Job
plan_job graph = only (does [] [] (plan_text graph))
