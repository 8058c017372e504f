-- Each text is refused a plan, or is accepted and asks for nothing that is unbuilt.
use Rattle.std.proofs.Common.{◌≡◌, ℕ, List, Option, Some, None, Result, Ok, Err, ◌⊎◌, inl, inr, refl, ap}
use Rattle.lowering.specs.Lines.{graph_refused, text_refused, trust_refused}
use Rattle.lowering.specs.Refusals.{IsAccepted}
use Rattle.lowering.specs.Unbuilt.{unbuilt}
use Rattle.lowering.specs.declared.fault.Refusal.TheVariants.{Text, Graph, Trust}
use Rattle.query_text.specs.Laws.{HasOneReading}
use Rattle.query_text.specs.Text.{IsFaultAt, IsQuery}
use Rattle.query_text.specs.declared.query.ReadFault.TheVariants as readings
use Rattle.query_text.specs.declared.statement.Statement.{Statement}
use Rattle.query_graph.specs.Build.{graph_of}
use Rattle.query_graph.specs.Content.{Content}
use Rattle.query_graph.specs.TextGraph.{HasGraph, TextsHaveGraphs}
use Rattle.query_graph.specs.declared.fault.GraphFault.{GraphFault}
use Rattle.trust_sets.specs.Faults.{first_fault}
use Rattle.trust_sets.specs.Trust.{trust_of}
use Rattle.trust_sets.specs.declared.fault.TrustFault.{TrustFault}
use Rattle.conclave_top.specs.Laws.{IsBuilt}
use Rattle.conclave_top.specs.Lines.{not_built}
use Rattle.conclave_top.specs.Plans.{IsRefusedPlan}
use Rattle.conclave_top.proofs.RealFaults.{real_graph}

abbrev pub IsEach : List ℕ → Type 0
IsEach text = ((line : List ℕ) × IsRefusedPlan text line) ⊎ IsBuilt text

each_accepted : (text : List ℕ) (graph : Content) → IsAccepted text graph → (line : Option ℕ) → unbuilt graph ≡ line → IsEach text
each_accepted text graph accepted (Some line) is = inl (not_built line, inr (record { at = line; is = record { graph = graph; accepted = accepted; unbuilt_at = is }; says = refl }))
each_accepted text graph accepted None is = inr (record { graph = graph; accepted = accepted; built = is })

each_graph : TextsHaveGraphs → (text : List ℕ) (graph : Content) → HasGraph text graph → (fault : Option TrustFault) → first_fault graph (trust_of graph.nodes) ≡ fault → IsEach text
each_graph texts text graph has (Some fault) is =
    inl (
      trust_refused graph.nodes fault,
      inl (record {
        refusal = Trust fault;
        is = record { graph = graph; has = has; first = is };
        says = λ other has_other. ap (λ (g : Content). trust_refused g.nodes fault) (texts.one_graph text graph other has has_other);
      }),
    )
each_graph texts text graph has None is = each_accepted text graph (record { has = has; passes = is }) (unbuilt graph) refl

each_query : TextsHaveGraphs → (text : List ℕ) (statements : List Statement) → IsQuery text statements → (answer : Result Content GraphFault) → graph_of statements ≡ answer → IsEach text
each_query texts text statements read (Err fault) is =
    inl (
      graph_refused fault,
      inl (record {
        refusal = Graph fault;
        is = record { has = record { statements = statements; read = read; faulty = is }; real = real_graph statements fault is };
        says = refl;
      }),
    )
each_query texts text statements read (Ok graph) is =
    each_graph texts text graph (record { statements = statements; read = read; built = is }) (first_fault graph (trust_of graph.nodes)) refl

each_reading : TextsHaveGraphs → (text : List ℕ) → ((q : List Statement) × IsQuery text q) ⊎ ((line : ℕ) × (column : ℕ) × IsFaultAt text line column) → IsEach text
each_reading texts text (inl q) = each_query texts text q.0 q.1 (graph_of q.0) refl
each_reading texts text (inr f) = inl (text_refused f.0 f.1, inl (record { refusal = Text (readings.Text f.0 f.1); is = f.2; says = refl }))

pub each_text : HasOneReading → TextsHaveGraphs → (text : List ℕ) → IsEach text
each_text reading texts text = each_reading texts text (reading text).0
