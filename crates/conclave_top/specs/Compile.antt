-- Which texts are compiled to a graph, and with which line another text is refused.
use Rattle.std.specs.Prelude.{◌≡◌, ℕ, List, Option, Some, None, Result, Ok, Err, option_map, ◌⊎◌, ⊤}
use Rattle.outside.specs.Folder.{Files, Holds}
use Rattle.query_text.specs.Text.{IsFaultAt, IsQuery}
use Rattle.query_text.specs.declared.statement.Statement.{Statement}
use Rattle.query_graph.specs.Build.{graph_of}
use Rattle.query_graph.specs.Content.{Content}
use Rattle.query_graph.specs.TextGraph as texts
use Rattle.query_graph.specs.declared.fault.GraphFault.{GraphFault}
use Rattle.trust_sets.specs.Faults.{first_fault}
use Rattle.trust_sets.specs.Trust.{trust_of}
use Rattle.conclave_top.specs.declared.end.Stop.{Stop}
use Rattle.conclave_top.specs.declared.end.Stop.TheVariants.{Line, Memory}
use Rattle.conclave_top.specs.Job.{Compilation}
use Rattle.lowering.specs.Lines.{graph_refused, text_refused, trust_refused}

-- the line of the refusal of a graph, by trust or release
abbrev pub graph_refusal : Content → Option (List ℕ)
graph_refusal graph = option_map (trust_refused graph.nodes) (first_fault graph (trust_of graph.nodes))

-- the line of the refusal of a query, by what its statements give: a rule that they break, or that of their graph
abbrev pub refusal_of : Result Content GraphFault → Option (List ℕ)
refusal_of (Err fault) = Some (graph_refused fault)
refusal_of (Ok graph) = graph_refusal graph

-- a text stops being a query, and this line says where
pub record IsNoQuery (text refusal : List ℕ) : Type 0 where
  pub line : ℕ
  pub column : ℕ
  pub fault : IsFaultAt text line column
  pub says : refusal ≡ text_refused line column

-- a text is a query that is refused with this line
pub record IsRefusedQuery (text refusal : List ℕ) : Type 0 where
  pub statements : List Statement
  pub read : IsQuery text statements
  pub refused : refusal_of (graph_of statements) ≡ Some refusal

-- a text is refused with this line
abbrev pub IsRefusedText : List ℕ → List ℕ → Type 0
IsRefusedText text refusal = IsNoQuery text refusal ⊎ IsRefusedQuery text refusal

-- a text has this graph, which isn't refused
pub record IsCompiled (text : List ℕ) (graph : Content) : Type 0 where
  pub has : texts.HasGraph text graph
  pub passes : graph_refusal graph ≡ None

-- a text is compiled to its graph
abbrev pub graphs : Compilation Content
graphs = record { refuses = IsRefusedText; gives = IsCompiled }

-- what compiling a graph, a query, a text gives
abbrev pub CompilesGraph : Content → Result Content Stop → Type 0
CompilesGraph graph (Ok same) = (same ≡ graph) × (graph_refusal graph ≡ None)
CompilesGraph graph (Err (Line line)) = refusal_of (Ok graph) ≡ Some line.items
CompilesGraph graph (Err Memory) = ⊤

abbrev pub CompilesQuery : List Statement → Result Content Stop → Type 0
CompilesQuery statements (Ok graph) = (graph_of statements ≡ Ok graph) × (graph_refusal graph ≡ None)
CompilesQuery statements (Err (Line line)) = refusal_of (graph_of statements) ≡ Some line.items
CompilesQuery statements (Err Memory) = ⊤

abbrev pub Compiles : List ℕ → Result Content Stop → Type 0
Compiles text (Ok graph) = IsCompiled text graph
Compiles text (Err (Line line)) = IsRefusedText text line.items
Compiles text (Err Memory) = ⊤

-- the file of this name has a text with this graph
pub record HasGraph (files : Option Files) (query : List ℕ) (graph : Content) : Type 0 where
  pub text : List ℕ
  pub held : Holds files query text
  pub compiled : IsCompiled text graph
