-- A graph goes back to its statements, and a fault to the first statement that has one.
use Rattle.std.specs.Prelude.{◌≡◌, ℕ, ◌≤◌, ⊤, Bool, true, false, not, List, [], ◌∷◌, ◌++◌, Option, Some, None, filter, length, slice_get, IsSomeAnd}
use Rattle.std.specs.List.{AllZip}
use Rattle.query_text.specs.declared.statement.Body.{Body}
use Rattle.query_text.specs.declared.statement.Body.TheVariants as bodies
use Rattle.query_text.specs.declared.statement.Statement.{Statement}
use Rattle.query_graph.specs.declared.fault.GraphFault.{GraphFault}
use Rattle.query_graph.specs.declared.fault.GraphFault.TheVariants.{Unknown, Taken, Kind, Shape, Size, NoOutput, Memory}
use Rattle.query_graph.specs.declared.node.Node.{Node}
use Rattle.query_graph.specs.declared.node.Output.{Output}
use Rattle.query_graph.specs.Build.{empty_graph, fault_of, name_of, with_statement}
use Rattle.query_graph.specs.Content.{Content}
use Rattle.query_graph.specs.Observers.{sources_of}
use Rattle.query_graph.specs.Parties.{parties_of}
use Rattle.query_graph.specs.Used.{used_nodes}

abbrev pub is_output_body : Body → Bool
is_output_body (bodies.Relation r) = false
is_output_body (bodies.Filter f) = false
is_output_body (bodies.Select s) = false
is_output_body (bodies.Concat c) = false
is_output_body (bodies.Join j) = false
is_output_body (bodies.Group g) = false
is_output_body (bodies.Distinct d) = false
is_output_body (bodies.Output o) = true

abbrev pub is_output : Statement → Bool
is_output s = is_output_body s.body

-- the node with this number has this name
abbrev pub IsNamed : List Node → ℕ → List ℕ → Type 0
IsNamed nodes s name = IsSomeAnd (slice_get nodes s) (λ n. n.name ≡ name)

-- the node of a statement among these: its name, its line, and as its sources the nodes that it names
pub record IsNodeOf (nodes : List Node) (s : Statement) (n : Node) : Type 0 where
  pub name : n.name ≡ name_of s.body
  pub line : n.line ≡ s.line
  pub sources : AllZip (IsNamed nodes) (sources_of n.shape) (used_nodes s.body)

-- the parties to which a statement writes rows; an output alone does
abbrev pub recipients_of : Body → List ℕ
recipients_of (bodies.Relation r) = []
recipients_of (bodies.Filter f) = []
recipients_of (bodies.Select s) = []
recipients_of (bodies.Concat c) = []
recipients_of (bodies.Join j) = []
recipients_of (bodies.Group g) = []
recipients_of (bodies.Distinct d) = []
recipients_of (bodies.Output o) = o.recipients

-- the output of a statement: its line, the node that it names, and the parties that it writes
pub record IsOutputOf (nodes : List Node) (s : Statement) (o : Output) : Type 0 where
  pub line : o.line ≡ s.line
  pub node : AllZip (IsNamed nodes) (o.node ∷ []) (used_nodes s.body)
  pub recipients : o.recipients ≡ parties_of (recipients_of s.body)

-- the nodes are those of the statements that aren't outputs, in order, and the outputs those of the others
pub record IsMadeOf (statements : List Statement) (graph : Content) : Type 0 where
  pub nodes : AllZip (IsNodeOf graph.nodes) (filter (λ s. not (is_output s)) statements) graph.nodes
  pub outputs : AllZip (IsOutputOf graph.nodes) (filter is_output statements) graph.outputs

-- the line that a fault names
abbrev pub line_of : GraphFault → Option ℕ
line_of (Unknown line name) = Some line
line_of (Taken line name) = Some line
line_of (Kind line) = Some line
line_of (Shape line) = Some line
line_of (Size line) = Some line
line_of NoOutput = None
line_of Memory = None

-- behind this graph no statement has a fault, and this is the graph with all of them
abbrev pub Passed : Content → List Statement → Content → Type 0
Passed graph [] after = after ≡ graph
Passed graph (s ∷ statements) after = (fault_of graph s.line s.body ≡ None) × Passed (with_statement graph s.line s.body) statements after

-- the graph of statements without a fault, one of which is an output
pub record IsGraphOf (statements : List Statement) (graph : Content) : Type 0 where
  pub passed : Passed empty_graph statements graph
  pub made : IsMadeOf statements graph
  pub some : 1 ≤ length graph.outputs

-- the first statement that has a fault: none before it has one, and behind these it has this
pub record IsFirstFault (statements : List Statement) (fault : GraphFault) : Type 0 where
  pub before : List Statement
  pub faulty : Statement
  pub behind : List Statement
  pub cut : statements ≡ before ++ faulty ∷ behind
  pub graph : Content
  pub passed : Passed empty_graph before graph
  pub breaks : fault_of graph faulty.line faulty.body ≡ Some fault
  pub line : line_of fault ≡ Some faulty.line

-- no statement has a fault, and none is an output
pub record HasNoOutput (statements : List Statement) : Type 0 where
  pub graph : Content
  pub passed : Passed empty_graph statements graph
  pub none : graph.outputs ≡ []

-- why a query has no graph
abbrev pub IsFaultOf : List Statement → GraphFault → Type 0
IsFaultOf statements Memory = ⊤
IsFaultOf statements NoOutput = HasNoOutput statements
IsFaultOf statements fault = IsFirstFault statements fault
