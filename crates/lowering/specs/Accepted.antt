-- What a graph, a query and a text come to before anything is lowered.
use Rattle.std.specs.Prelude.{◌≡◌, ◌≢◌, ℕ, List, Some, None, Result, Ok, Err, ⊤}
use Rattle.query_graph.specs.Build.{graph_of}
use Rattle.query_graph.specs.Content.{Content}
use Rattle.query_graph.specs.declared.fault.GraphFault.TheVariants as graphs
use Rattle.query_text.specs.declared.statement.Statement.{Statement}
use Rattle.trust_sets.specs.Faults.{first_fault}
use Rattle.trust_sets.specs.Trust.{trust_of}
use Rattle.lowering.specs.Refusals.{IsAccepted, IsRefusal}
use Rattle.lowering.specs.declared.accept.Accepted.{Accepted}
use Rattle.lowering.specs.declared.fault.CompileFault.{CompileFault}
use Rattle.lowering.specs.declared.fault.CompileFault.TheVariants.{Refused, NotBuilt, Memory}
use Rattle.lowering.specs.declared.fault.Refusal.TheVariants.{Text, Graph, Trust}

-- a graph that passes, with its trust; or the first that a statement asks for beyond trust and release
abbrev pub AcceptsGraph : Content → Result Accepted CompileFault → Type 0
AcceptsGraph graph (Ok a) = (a.graph ≡ graph) × (a.trust ≡ trust_of graph.nodes) × (first_fault graph (trust_of graph.nodes) ≡ None)
AcceptsGraph graph (Err (Refused (Text fault))) = ⊥
AcceptsGraph graph (Err (Refused (Graph fault))) = ⊥
AcceptsGraph graph (Err (Refused (Trust fault))) = first_fault graph (trust_of graph.nodes) ≡ Some fault
AcceptsGraph graph (Err (NotBuilt line)) = ⊥
AcceptsGraph graph (Err Memory) = ⊤

-- statements that have such a graph, or the rule that they break
pub record HasAccepted (statements : List Statement) (a : Accepted) : Type 0 where
  pub built : graph_of statements ≡ Ok a.graph
  pub trust_is : a.trust ≡ trust_of a.graph.nodes
  pub passes : first_fault a.graph (trust_of a.graph.nodes) ≡ None

abbrev pub AcceptsQuery : List Statement → Result Accepted CompileFault → Type 0
AcceptsQuery statements (Ok a) = HasAccepted statements a
AcceptsQuery statements (Err (Refused (Text fault))) = ⊥
AcceptsQuery statements (Err (Refused (Graph fault))) = (graph_of statements ≡ Err fault) × (fault ≢ graphs.Memory)
AcceptsQuery statements (Err (Refused (Trust fault))) = (graph : Content) × (graph_of statements ≡ Ok graph) × (first_fault graph (trust_of graph.nodes) ≡ Some fault)
AcceptsQuery statements (Err (NotBuilt line)) = ⊥
AcceptsQuery statements (Err Memory) = ⊤

-- a text that is accepted, or the first rule that fails
abbrev pub AcceptsText : List ℕ → Result Accepted CompileFault → Type 0
AcceptsText text (Ok a) = IsAccepted text a.graph × (a.trust ≡ trust_of a.graph.nodes)
AcceptsText text (Err (Refused refusal)) = IsRefusal text refusal
AcceptsText text (Err (NotBuilt line)) = ⊥
AcceptsText text (Err Memory) = ⊤
