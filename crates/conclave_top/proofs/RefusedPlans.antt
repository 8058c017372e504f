-- A text has no plan for one reason, and is told so with one line.
use Rattle.std.proofs.Common.{◌≡◌, ℕ, Bool, true, false, ◌||◌, List, [], ◌∷◌, Option, Some, None, inl, inr, refl, ap, sym, ◌∙◌}
use Rattle.std.specs.Prelude.{is_some, if◌then◌else◌}
use Rattle.std.specs.Option.{option_or}
use Rattle.lowering.specs.Lines.{graph_refused, text_refused, trust_refused}
use Rattle.lowering.specs.RefusalLines.{IsRefusalLine}
use Rattle.lowering.specs.Refusals.{IsAccepted, IsRefusal}
use Rattle.lowering.specs.Unbuilt.{first_written, is_written, too_dear, unbuilt}
use Rattle.lowering.specs.Costs.{shared_cost}
use Rattle.lowering.specs.declared.fault.Refusal.{Refusal}
use Rattle.lowering.specs.declared.fault.Refusal.TheVariants.{Text, Graph, Trust}
use Rattle.query_text.specs.Laws.{HasOneReading}
use Rattle.query_text.specs.declared.query.ReadFault.TheVariants as readings
use Rattle.query_graph.specs.Content.{Content}
use Rattle.query_graph.specs.Observers.{at_most_of, clear_at_of, parts_at_most_of, via_of}
use Rattle.query_graph.specs.TextGraph.{TextsHaveGraphs}
use Rattle.query_graph.specs.declared.node.Node.{Node}
use Rattle.query_graph.specs.declared.operator.Operator.{Operator}
use Rattle.trust_sets.specs.Faults.{first_fault}
use Rattle.trust_sets.specs.Trust.{trust_of}
use Rattle.conclave_top.specs.Bounds as bounds
use Rattle.conclave_top.specs.Laws.{IsBuilt}
use Rattle.conclave_top.specs.Lines.{not_built}
use Rattle.conclave_top.specs.Plans.{IsRefusedPlan}

pub same_of_some : {A : Type 0} (x y : A) → Some x ≡ Some y → x ≡ y
same_of_some x y same = cc

pub some_is_not_none : {A : Type 0} (x : A) (o : Option A) → o ≡ Some x → o ≡ None → ⊥
some_is_not_none x o some none = cc

-- one rule is the first that fails, with one line
one_ruling : HasOneReading → TextsHaveGraphs → (text : List ℕ) (a b : Refusal) (line other : List ℕ) → IsRefusal text a → IsRefusal text b
    → IsRefusalLine text a line → IsRefusalLine text b other → line ≡ other
one_ruling reading graphs text (Text readings.Memory) b line other first second says tells = absurd first
one_ruling reading graphs text (Text (readings.Text l c)) (Text readings.Memory) line other first second says tells = absurd second
one_ruling reading graphs text (Text (readings.Text l c)) (Text (readings.Text m d)) line other first second says tells =
    let place = (reading text).3 l c m d first second in
    says ∙ ap (λ n. text_refused n c) place.0 ∙ ap (text_refused m) place.1 ∙ sym tells
one_ruling reading graphs text (Text (readings.Text l c)) (Graph g) line other first second says tells = absurd ((reading text).2 second.has.statements l c second.has.read first)
one_ruling reading graphs text (Text (readings.Text l c)) (Trust t) line other first second says tells = absurd (graphs.no_place text second.graph l c second.has first)
one_ruling reading graphs text (Graph f) (Text readings.Memory) line other first second says tells = absurd second
one_ruling reading graphs text (Graph f) (Text (readings.Text m d)) line other first second says tells = absurd ((reading text).2 first.has.statements m d first.has.read second)
one_ruling reading graphs text (Graph f) (Graph g) line other first second says tells = says ∙ ap graph_refused (graphs.one_fault text f g first.has second.has) ∙ sym tells
one_ruling reading graphs text (Graph f) (Trust t) line other first second says tells = absurd (graphs.no_fault text second.graph f second.has first.has)
one_ruling reading graphs text (Trust s) (Text readings.Memory) line other first second says tells = absurd second
one_ruling reading graphs text (Trust s) (Text (readings.Text m d)) line other first second says tells = absurd (graphs.no_place text first.graph m d first.has second)
one_ruling reading graphs text (Trust s) (Graph g) line other first second says tells = absurd (graphs.no_fault text first.graph g first.has second.has)
one_ruling reading graphs text (Trust s) (Trust t) line other first second says tells =
    let graph : first.graph ≡ second.graph = graphs.one_graph text first.graph second.graph first.has second.has in
    let fault : s ≡ t = same_of_some s t (sym first.first ∙ ap (λ (g : Content). first_fault g (trust_of g.nodes)) graph ∙ second.first) in
    says first.graph first.has ∙ ap (λ (g : Content). trust_refused g.nodes s) graph ∙ ap (trust_refused second.graph.nodes) fault ∙ sym (tells second.graph second.has)

-- and it isn't accepted then
not_accepted : TextsHaveGraphs → (text : List ℕ) (refusal : Refusal) (graph : Content) → IsRefusal text refusal → IsAccepted text graph → ⊥
not_accepted graphs text (Text readings.Memory) graph is accepted = is
not_accepted graphs text (Text (readings.Text line column)) graph is accepted = graphs.no_place text graph line column accepted.has is
not_accepted graphs text (Graph fault) graph is accepted = graphs.no_fault text graph fault accepted.has is.has
not_accepted graphs text (Trust fault) graph is accepted =
    let same : is.graph ≡ graph = graphs.one_graph text is.graph graph is.has accepted.has in
    some_is_not_none fault (first_fault is.graph (trust_of is.graph.nodes)) is.first (ap (λ (g : Content). first_fault g (trust_of g.nodes)) same ∙ accepted.passes)

-- nor is it where something is unbuilt
pub one_plan_line : HasOneReading → TextsHaveGraphs → (text line other : List ℕ) → IsRefusedPlan text line → IsRefusedPlan text other → line ≡ other
one_plan_line reading graphs text line other (inl a) (inl b) = one_ruling reading graphs text a.refusal b.refusal line other a.is b.is a.says b.says
one_plan_line reading graphs text line other (inl a) (inr b) = absurd (not_accepted graphs text a.refusal b.is.graph a.is b.is.accepted)
one_plan_line reading graphs text line other (inr a) (inl b) = absurd (not_accepted graphs text b.refusal a.is.graph b.is a.is.accepted)
one_plan_line reading graphs text line other (inr a) (inr b) =
    let graph : a.is.graph ≡ b.is.graph = graphs.one_graph text a.is.graph b.is.graph a.is.accepted.has b.is.accepted.has in
    let place : a.at ≡ b.at = same_of_some a.at b.at (sym a.is.unbuilt_at ∙ ap unbuilt graph ∙ b.is.unbuilt_at) in
    a.says ∙ ap not_built place ∙ sym b.says

pub not_planned : TextsHaveGraphs → (text line : List ℕ) → IsRefusedPlan text line → IsBuilt text → ⊥
not_planned graphs text line (inl a) built = not_accepted graphs text a.refusal built.graph a.is built.accepted
not_planned graphs text line (inr a) built =
    let graph : a.is.graph ≡ built.graph = graphs.one_graph text a.is.graph built.graph a.is.accepted.has built.accepted.has in
    some_is_not_none a.at (unbuilt a.is.graph) a.is.unbuilt_at (ap unbuilt graph ∙ built.built)

-- where nothing is unbuilt no bound is written
or_none : (a b : Option ℕ) → option_or a b ≡ None → a ≡ None
or_none (Some x) b none = cc
or_none None b none = refl

none_else : (written : Bool) (line : ℕ) (others : Option ℕ) → (if written then Some line else others) ≡ None → (written ≡ false) × (others ≡ None)
none_else true line others none = cc
none_else false line others none = (refl, none)

unwritten : (a b c d : Option ℕ) → (is_some a || is_some b || is_some c || is_some d) ≡ false → (bounds.is_written a || bounds.is_written b) ≡ false
unwritten (Some x) b c d none = cc
unwritten None (Some x) c d none = cc
unwritten None None c d none = refl

not_bounded : (shape : Operator) → is_written shape ≡ false → bounds.is_bounded shape ≡ false
not_bounded shape none = unwritten (at_most_of shape) (parts_at_most_of shape) (via_of shape) (clear_at_of shape) none

no_bound : (nodes : List Node) → first_written nodes ≡ None → bounds.first_bound nodes ≡ None
no_bound [] none = refl
no_bound (node ∷ nodes) none =
    let both = none_else (is_written node.shape) node.line (first_written nodes) none in
    ap (λ (b : Bool). if b then Some node.line else bounds.first_bound nodes) (not_bounded node.shape both.0) ∙ no_bound nodes both.1

pub unbounded : (graph : Content) → unbuilt graph ≡ None → bounds.first_bound graph.nodes ≡ None
unbounded graph built = no_bound graph.nodes (or_none (first_written graph.nodes) (too_dear (shared_cost graph)) built)
