-- Which texts are refused, by the first rule that fails in the order text, graph, trust and release; and which are accepted.
use Rattle.std.specs.Prelude.{◌≡◌, ◌≢◌, ℕ, List, Some, None}
use Rattle.query_text.specs.Text.{IsFaultAt}
use Rattle.query_text.specs.declared.query.ReadFault.{ReadFault}
use Rattle.query_text.specs.declared.query.ReadFault.TheVariants as reading
use Rattle.query_graph.specs.Content.{Content}
use Rattle.query_graph.specs.TextGraph.{HasGraph, HasGraphFault}
use Rattle.query_graph.specs.declared.fault.GraphFault.{GraphFault}
use Rattle.query_graph.specs.declared.fault.GraphFault.TheVariants as graphs
use Rattle.trust_sets.specs.Faults.{first_fault}
use Rattle.trust_sets.specs.Trust.{trust_of}
use Rattle.trust_sets.specs.declared.fault.TrustFault.{TrustFault}
use Rattle.lowering.specs.declared.fault.Refusal.{Refusal}
use Rattle.lowering.specs.declared.fault.Refusal.TheVariants.{Text, Graph, Trust}
use Rattle.lowering.specs.Unbuilt.{unbuilt}

-- the text stops being a query here; want of memory is no refusal
abbrev pub IsTextFault : List ℕ → ReadFault → Type 0
IsTextFault text (reading.Text line column) = IsFaultAt text line column
IsTextFault text reading.Memory = ⊥

-- the text's statements break this rule
pub record IsGraphFault (text : List ℕ) (fault : GraphFault) : Type 0 where
  pub has : HasGraphFault text fault
  pub real : fault ≢ graphs.Memory

-- the text has a graph, and this is the first that a statement asks for beyond trust and release
pub record IsTrustFault (text : List ℕ) (fault : TrustFault) : Type 0 where
  pub graph : Content
  pub has : HasGraph text graph
  pub first : first_fault graph (trust_of graph.nodes) ≡ Some fault

abbrev pub IsRefusal : List ℕ → Refusal → Type 0
IsRefusal text (Text fault) = IsTextFault text fault
IsRefusal text (Graph fault) = IsGraphFault text fault
IsRefusal text (Trust fault) = IsTrustFault text fault

-- the text has this graph, and no rule fails
pub record IsAccepted (text : List ℕ) (graph : Content) : Type 0 where
  pub has : HasGraph text graph
  pub passes : first_fault graph (trust_of graph.nodes) ≡ None

-- it is accepted, and this is the line of what isn't built
pub record IsUnbuilt (text : List ℕ) (line : ℕ) : Type 0 where
  pub graph : Content
  pub accepted : IsAccepted text graph
  pub unbuilt_at : unbuilt graph ≡ Some line
