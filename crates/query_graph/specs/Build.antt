-- The graph of a query's statements, and the first rule that fails.
use Rattle.std.specs.Prelude.{◌≡◌, ℕ, List, [], ◌∷◌, ◌++◌, map, Option, Some, None, Result, Ok, Err}
use Rattle.words.specs.declared.column.Column.{Column}
use Rattle.query_text.specs.declared.parts.ColumnText.{ColumnText}
use Rattle.query_text.specs.declared.statement.Body.{Body}
use Rattle.query_text.specs.declared.statement.Body.TheVariants as bodies
use Rattle.query_text.specs.declared.statement.Statement.{Statement}
use Rattle.query_graph.specs.declared.fault.GraphFault.{GraphFault}
use Rattle.query_graph.specs.declared.fault.GraphFault.TheVariants.{Kind, Shape, Size, NoOutput, Memory}
use Rattle.query_graph.specs.declared.node.Node.{Node}
use Rattle.query_graph.specs.declared.node.Output.{Output}
use Rattle.query_graph.specs.declared.operator.Operator.{Operator}
use Rattle.query_graph.specs.declared.operator.Operator.TheVariants as operators
use Rattle.query_graph.specs.Columns.{columns_of, taken_name}
use Rattle.query_graph.specs.Content.{Content}
use Rattle.query_graph.specs.Faults.{first_of, unless}
use Rattle.query_graph.specs.Kinds.{kinds_fit}
use Rattle.query_graph.specs.Names.{column_number, node_columns, node_number}
use Rattle.query_graph.specs.Operators.{aggregate_of, item_of, test_of}
use Rattle.query_graph.specs.Parties.{parties_of}
use Rattle.query_graph.specs.Shapes.{shape_fits}
use Rattle.query_graph.specs.Sizes.{declared_rows, sizes_fit}
use Rattle.query_graph.specs.Used.{unknown_name}

-- the numbers of a key on the left and on the right
abbrev pub key_numbers : List Column → List Column → List ℕ → ℕ × ℕ
key_numbers left right key = (column_number left key, column_number right key)

-- what a statement's node does, with numbers for names; an output has no node
abbrev pub operator_of : List Node → Body → Operator
operator_of nodes (bodies.Relation r) =
    operators.Relation (record { owner = r.owner; trusted = map (λ (c : ColumnText). parties_of c.trusted) r.columns; release = parties_of r.release })
operator_of nodes (bodies.Filter f) =
    operators.Filter (record { source = node_number nodes f.source; tests = map (test_of (node_columns nodes f.source)) f.tests; at_most = f.at_most; clear_at = f.clear_at })
operator_of nodes (bodies.Select s) =
    operators.Select (record { source = node_number nodes s.source; items = map (item_of (node_columns nodes s.source)) s.items; clear_at = s.clear_at })
operator_of nodes (bodies.Concat c) = operators.Concat (record { sources = map (node_number nodes) c.sources })
operator_of nodes (bodies.Join j) =
    operators.Join (record {
      left = node_number nodes j.left;
      right = node_number nodes j.right;
      keys = map (key_numbers (node_columns nodes j.left) (node_columns nodes j.right)) j.keys;
      at_most = j.at_most;
      via = j.via;
      clear_at = j.clear_at;
    })
operator_of nodes (bodies.Group g) =
    operators.Group (record {
      source = node_number nodes g.source;
      keys = map (column_number (node_columns nodes g.source)) g.keys;
      aggregates = map (aggregate_of (node_columns nodes g.source)) g.aggregates;
      parts_at_most = g.parts_at_most;
      at_most = g.at_most;
      via = g.via;
      clear_at = g.clear_at;
    })
operator_of nodes (bodies.Distinct d) = operators.Distinct (record { source = node_number nodes d.source; at_most = d.at_most; clear_at = d.clear_at })
operator_of nodes (bodies.Output o) = operators.Concat (record { sources = [] })

-- the name that a statement defines; an output defines none
abbrev pub name_of : Body → List ℕ
name_of (bodies.Relation r) = r.name
name_of (bodies.Filter f) = f.name
name_of (bodies.Select s) = s.name
name_of (bodies.Concat c) = c.name
name_of (bodies.Join j) = j.name
name_of (bodies.Group g) = g.name
name_of (bodies.Distinct d) = d.name
name_of (bodies.Output o) = []

-- the node of a statement behind earlier nodes
abbrev pub node_of : List Node → ℕ → Body → Node
node_of nodes line body = record { name = name_of body; line = line; columns = columns_of nodes body; rows = declared_rows nodes body; shape = operator_of nodes body }

abbrev pub with_node : Content → Node → Content
with_node graph node = record { nodes = graph.nodes ++ node ∷ []; outputs = graph.outputs }

abbrev pub with_output : Content → Output → Content
with_output graph output = record { nodes = graph.nodes; outputs = graph.outputs ++ output ∷ [] }

-- the output that a statement is, or none
abbrev pub output_of : List Node → ℕ → Body → Option Output
output_of nodes line (bodies.Relation r) = None
output_of nodes line (bodies.Filter f) = None
output_of nodes line (bodies.Select s) = None
output_of nodes line (bodies.Concat c) = None
output_of nodes line (bodies.Join j) = None
output_of nodes line (bodies.Group g) = None
output_of nodes line (bodies.Distinct d) = None
output_of nodes line (bodies.Output o) = Some (record { line = line; node = node_number nodes o.node; recipients = parties_of o.recipients })

abbrev pub with_either : Content → Option Output → Node → Content
with_either graph (Some output) node = with_output graph output
with_either graph None node = with_node graph node

-- the graph with one statement more: an output, or a node
abbrev pub with_statement : Content → ℕ → Body → Content
with_statement graph line body = with_either graph (output_of graph.nodes line body) (node_of graph.nodes line body)

-- the rules behind that on unknown names, over the columns and the rows of the statement's node
abbrev pub rule_of : Content → ℕ → Body → Option GraphFault
rule_of graph line body =
    first_of (taken_name line graph body) (first_of (unless (kinds_fit graph.nodes body) (Kind line))
    (first_of (unless (shape_fits graph.nodes body) (Shape line)) (unless (sizes_fit graph.nodes body) (Size line))))

-- the first rule that a statement breaks behind an earlier graph: unknown names, taken names, kinds, shape, size
abbrev pub fault_of : Content → ℕ → Body → Option GraphFault
fault_of graph line body = first_of (unknown_name line graph.nodes body) (rule_of graph line body)

-- a fault, or the answer without one
abbrev pub without : {A : Type 0} → Option GraphFault → Result A GraphFault → Result A GraphFault
without (Some fault) answer = Err fault
without None answer = answer

-- a graph is to have an output
abbrev pub with_any_output : Content → List Output → Result Content GraphFault
with_any_output graph [] = Err NoOutput
with_any_output graph (o ∷ outputs) = Ok graph

-- the graph of these statements behind an earlier graph, or the fault of the first that has one
abbrev pub graph_behind : Content → List Statement → Result Content GraphFault
graph_behind graph [] = with_any_output graph graph.outputs
graph_behind graph (s ∷ statements) = without (fault_of graph s.line s.body) (graph_behind (with_statement graph s.line s.body) statements)

abbrev pub empty_graph : Content
empty_graph = record { nodes = []; outputs = [] }

-- the graph of a query's statements, or why they have none
abbrev pub graph_of : List Statement → Result Content GraphFault
graph_of statements = graph_behind empty_graph statements

-- the call answered the fault of this answer, or had no memory
abbrev pub GivesFault : GraphFault → Result Content GraphFault → Type 0
GivesFault Memory answer = Unit {0}
GivesFault fault answer = answer ≡ Err fault

-- the call gave exactly this answer, or had no memory
abbrev pub Gives : Result Content GraphFault → Result Content GraphFault → Type 0
Gives (Ok graph) answer = answer ≡ Ok graph
Gives (Err fault) answer = GivesFault fault answer
