-- Faults of nodes and of outputs, and which statement comes first.
use Rattle.std.proofs.Common.{◌≡◌, ℕ, zero, suc, ◌+◌, ◌<◌, ◌≤◌, inl, inr, Bool, true, false, cond, List, [], ◌∷◌, Option, Some, None, get_or, refl, sym, ap, ◌∙◌, subst, arith, add-zero, zero-add}
use Rattle.std.specs.Prelude.{slice_get, AllPairs, nat_le}
use Rattle.std.specs.Option.{option_or}
use Rattle.std.proofs.lemmas.Bool.{cases_lt, false≢true}
use Rattle.std.proofs.lemmas.Bool.Decides.{nat_tests}
use Rattle.std.proofs.lemmas.Option.{get_or_from_slice_get, slice_get-get_or, slice_get_within}
use Rattle.query_graph.specs.declared.node.Node.{Node}
use Rattle.query_graph.specs.declared.node.Output.{Output}
use Rattle.query_graph.specs.Content.{Content}
use Rattle.query_graph.specs.IsGraph.{IsGraph}
use Rattle.trust_sets.specs.declared.fault.TrustFault.{TrustFault}
use Rattle.trust_sets.specs.declared.known.Known.{Known}
use Rattle.trust_sets.specs.declared.withheld.Withheld.{Withheld}
use Rattle.trust_sets.specs.Faults.{earlier_fault, first_fault, line_of, node_fault, nodes_fault, output_fault, outputs_fault}
use Rattle.trust_sets.specs.Known.{known_nodes}
use Rattle.trust_sets.specs.Release.{withheld_nodes}
use Rattle.trust_sets.specs.Rules.{IsFirstBreach, KeepsRelease, KeepsRules, KeepsRulesBefore, KeepsTrust, RulesInWords}
use Rattle.trust_sets.specs.Trust.{trust_of}
use Rattle.trust_sets.specs.Under.{IsUnder}
use Rattle.trust_sets.specs.declared.fault.TrustFault.TheVariants as faults
use Rattle.trust_sets.proofs.Breaches.{breaks_release, breaks_trust, either_none, either_some, keeps_release, keeps_trust, line_of_node, line_of_output, some_same}

-- the first of a list's parts that has a fault, each with its place
module _ {A : Type 0} (f : ℕ → A → Option TrustFault) where
  walk : ℕ → List A → Option TrustFault
  walk number [] = None
  walk number (x ∷ xs) = option_or (f number x) (walk (number + 1) xs)

  no_walk : (number : ℕ) (xs : List A) → walk number xs ≡ None → (k : ℕ) (y : A) → slice_get xs k ≡ Some y → f (number + k) y ≡ None
  unfolding walk
  no_walk number [] none k y at = absurd cc
  no_walk number (x ∷ xs) none zero y at =
      let same : x ≡ y = cc in
      subst (λ n. f n y ≡ None) (sym (add-zero number)) (subst (λ z. f number z ≡ None) same (either_none _ _ none).0)
  no_walk number (x ∷ xs) none (suc k) y at =
      let moved : number + 1 + k ≡ number + suc k = omega arith in
      subst (λ n. f n y ≡ None) moved (no_walk (number + 1) xs (either_none _ _ none).1 k y at)

  record FindsFirst (number : ℕ) (xs : List A) (fault : TrustFault) : Type 0 where
    pub place : ℕ
    pub part : A
    pub at : slice_get xs place ≡ Some part
    pub faulty : f (number + place) part ≡ Some fault
    pub earlier : (k : ℕ) (y : A) → k < place → slice_get xs k ≡ Some y → f (number + k) y ≡ None

  some_walk : (number : ℕ) (xs : List A) (fault : TrustFault) → walk number xs ≡ Some fault → FindsFirst number xs fault
  unfolding walk
  some_walk number [] fault some = absurd cc
  some_walk number (x ∷ xs) fault some = elim (either_some (f number x) (walk (number + 1) xs) fault some) [
    | inl here ↦ record { place = 0; part = x; at = refl; faulty = subst (λ n. f n x ≡ Some fault) (sym (add-zero number)) here; earlier = λ k y below at. absurd (omega (arith, below)) }
    | inr behind ↦ later number x xs fault behind.0 (some_walk (number + 1) xs fault behind.1)
  ]
    where
      later : (number : ℕ) (x : A) (xs : List A) (fault : TrustFault) → f number x ≡ None → FindsFirst (number + 1) xs fault → FindsFirst number (x ∷ xs) fault
      later number x xs fault none found =
          let moved : (k : ℕ) → number + 1 + k ≡ number + suc k = λ k. omega arith in
          record {
            place = suc found.place;
            part = found.part;
            at = found.at;
            faulty = subst (λ n. f n found.part ≡ Some fault) (moved found.place) found.faulty;
            earlier = before;
          }
        where
          before : (k : ℕ) (y : A) → k < suc found.place → slice_get (x ∷ xs) k ≡ Some y → f (number + k) y ≡ None
          before zero y below at =
              let same : x ≡ y = cc in
              subst (λ n. f n y ≡ None) (sym (add-zero number)) (subst (λ z. f number z ≡ None) same none)
          before (suc k) y below at =
              let moved : number + 1 + k ≡ number + suc k = omega arith in
              subst (λ n. f n y ≡ None) moved (found.earlier k y (omega (arith, below)) at)

  -- where lines rise, no part on an earlier line has a fault
  none_before : (line : A → ℕ) (xs : List A) (fault : TrustFault) → AllPairs (λ a b. line a < line b) xs → (found : FindsFirst 0 xs fault) → (k : ℕ) (y : A) → slice_get xs k ≡ Some y
      → line y < line found.part → f (0 + k) y ≡ None
  none_before line xs fault rise found k y at below = elim (cases_lt k found.place) [
    | inl lower ↦ found.earlier k y lower at
    | inr behind ↦ elim (cases_lt found.place k) [
      | inl further ↦
          let up : line (get_or xs found.place y) < line (get_or xs k y) = rise found.place k y further (slice_get_within xs k y at) in
          let first = ap line (get_or_from_slice_get xs found.place found.part y found.at) in
          let second = ap line (get_or_from_slice_get xs k y y at) in
          absurd (omega (arith, up, first, second, below))
      | inr not_further ↦
          let same : k ≡ found.place = omega (arith, behind, not_further) in
          let part : y ≡ found.part = some_same y found.part (slice_get xs found.place) (subst (λ n. slice_get xs n ≡ Some y) same at) found.at in
          absurd (omega (arith, ap line part, below))
    ]
  ]

nodes_walk : (graph : Content) (known : List Known) (number : ℕ) (nodes : List Node) → nodes_fault graph known number nodes ≡ walk (node_fault graph known) number nodes
unfolding walk
nodes_walk graph known number [] = refl
nodes_walk graph known number (n ∷ nodes) = ap (option_or (node_fault graph known number n)) (nodes_walk graph known (number + 1) nodes)

fault_of_output : List Withheld → ℕ → Output → Option TrustFault
fault_of_output withheld number output = output_fault withheld output

outputs_walk : (withheld : List Withheld) (number : ℕ) (outputs : List Output) → outputs_fault withheld outputs ≡ walk (fault_of_output withheld) number outputs
unfolding walk fault_of_output
outputs_walk withheld number [] = refl
outputs_walk withheld number (o ∷ outputs) = ap (option_or (output_fault withheld o)) (outputs_walk withheld (number + 1) outputs)

module _ (graph : Content) (is : IsGraph graph) where
  of_nodes : Option TrustFault
  of_nodes = nodes_fault graph (known_nodes graph.nodes) 0 graph.nodes

  of_outputs : Option TrustFault
  of_outputs = outputs_fault (withheld_nodes graph.nodes) graph.outputs

  -- no node, or no output, on an earlier line than this has a fault
  TrustBefore : ℕ → Type 0
  TrustBefore line = (k : ℕ) (n : Node) → slice_get graph.nodes k ≡ Some n → n.line < line → node_fault graph (known_nodes graph.nodes) k n ≡ None

  ReleaseBefore : ℕ → Type 0
  ReleaseBefore line = (k : ℕ) (o : Output) → slice_get graph.outputs k ≡ Some o → o.line < line → output_fault (withheld_nodes graph.nodes) o ≡ None

  before : (line : ℕ) → TrustBefore line → ReleaseBefore line → KeepsRulesBefore graph line
  unfolding TrustBefore ReleaseBefore
  before line trust release = record {
    trust = λ i d within earlier.
        let n = get_or graph.nodes i d in
        let at = slice_get-get_or graph.nodes i d within in
        keeps_trust graph is i n at (trust i n at earlier);
    release = λ i d within earlier.
        let o = get_or graph.outputs i d in
        keeps_release graph is o (release i o (slice_get-get_or graph.outputs i d within) earlier);
  }

  no_node : of_nodes ≡ None → (k : ℕ) (n : Node) → slice_get graph.nodes k ≡ Some n → node_fault graph (known_nodes graph.nodes) k n ≡ None
  unfolding of_nodes
  no_node none k n at = subst (λ j. node_fault graph (known_nodes graph.nodes) j n ≡ None) (zero-add k) (no_walk (node_fault graph (known_nodes graph.nodes)) 0 graph.nodes (sym (nodes_walk graph (known_nodes graph.nodes) 0 graph.nodes) ∙ none) k n at)

  no_output : of_outputs ≡ None → (k : ℕ) (o : Output) → slice_get graph.outputs k ≡ Some o → output_fault (withheld_nodes graph.nodes) o ≡ None
  unfolding of_outputs fault_of_output
  no_output none k o at = no_walk (fault_of_output (withheld_nodes graph.nodes)) 0 graph.outputs (sym (outputs_walk (withheld_nodes graph.nodes) 0 graph.outputs) ∙ none) k o at

  first_node : (fault : TrustFault) → of_nodes ≡ Some fault → FindsFirst (node_fault graph (known_nodes graph.nodes)) 0 graph.nodes fault
  unfolding of_nodes
  first_node fault some = some_walk (node_fault graph (known_nodes graph.nodes)) 0 graph.nodes fault (sym (nodes_walk graph (known_nodes graph.nodes) 0 graph.nodes) ∙ some)

  first_output : (fault : TrustFault) → of_outputs ≡ Some fault → FindsFirst (fault_of_output (withheld_nodes graph.nodes)) 0 graph.outputs fault
  unfolding of_outputs
  first_output fault some = some_walk (fault_of_output (withheld_nodes graph.nodes)) 0 graph.outputs fault (sym (outputs_walk (withheld_nodes graph.nodes) 0 graph.outputs) ∙ some)

  -- where the first fault of a node comes first
  node_first : (fault : TrustFault) → of_nodes ≡ Some fault → ReleaseBefore (line_of fault) → IsFirstBreach graph fault
  unfolding TrustBefore ReleaseBefore
  node_first fault some release =
      let found = first_node fault some in
      let f = node_fault graph (known_nodes graph.nodes) in
      let faulty = subst (λ j. f j found.part ≡ Some fault) (zero-add found.place) found.faulty in
      let line = line_of_node graph is found.place found.part found.at fault faulty in
      breaks_trust graph is found.place found.part found.at fault faulty
      (before found.part.line
      (λ k n at below. subst (λ j. f j n ≡ None) (zero-add k) (none_before f (λ (m : Node). m.line) graph.nodes fault is.lines.nodes found k n at below))
      (λ k o at below. release k o at (omega (arith, line, below))))

  -- and where that of an output does
  output_first : (fault : TrustFault) → of_outputs ≡ Some fault → TrustBefore (line_of fault) → IsFirstBreach graph fault
  unfolding TrustBefore ReleaseBefore fault_of_output
  output_first fault some trust =
      let found = first_output fault some in
      let line = line_of_output graph is found.part fault found.faulty in
      breaks_release graph is found.part found.place fault found.at found.faulty
      (before found.part.line (λ k n at below. trust k n at (omega (arith, line, below)))
      (λ k o at below. none_before (fault_of_output (withheld_nodes graph.nodes)) (λ (p : Output). p.line) graph.outputs fault is.lines.outputs found k o at below))

  -- a fault that stands before the other's line, or on it
  nodes_before : (fault : TrustFault) → of_nodes ≡ Some fault → (line : ℕ) → line ≤ line_of fault → TrustBefore line
  unfolding TrustBefore
  nodes_before fault some line lower k n at below =
      let found = first_node fault some in
      let f = node_fault graph (known_nodes graph.nodes) in
      let on = line_of_node graph is found.place found.part found.at fault (subst (λ j. f j found.part ≡ Some fault) (zero-add found.place) found.faulty) in
      subst (λ j. f j n ≡ None) (zero-add k) (none_before f (λ (m : Node). m.line) graph.nodes fault is.lines.nodes found k n at (omega (arith, below, lower, on)))

  outputs_before : (fault : TrustFault) → of_outputs ≡ Some fault → (line : ℕ) → line ≤ line_of fault → ReleaseBefore line
  unfolding ReleaseBefore fault_of_output
  outputs_before fault some line lower k o at below =
      let found = first_output fault some in
      let on = line_of_output graph is found.part fault found.faulty in
      none_before (fault_of_output (withheld_nodes graph.nodes)) (λ (p : Output). p.line) graph.outputs fault is.lines.outputs found k o at (omega (arith, below, lower, on))

  both_first : (a b fault : TrustFault) → of_nodes ≡ Some a → of_outputs ≡ Some b → (lower : Bool) → nat_le (line_of a) (line_of b) ≡ lower
      → (let o : Option TrustFault = Some (cond lower a b) in o) ≡ Some fault → IsFirstBreach graph fault
  both_first a b fault nodes outputs true is_lower some =
      let same : a ≡ fault = cc in
      subst (IsFirstBreach graph) same (node_first a nodes (outputs_before b outputs (line_of a) (grind (arith, nat_tests))))
  both_first a b fault nodes outputs false is_lower some =
      let same : b ≡ fault = cc in
      subst (IsFirstBreach graph) same (output_first b outputs (nodes_before a nodes (line_of b) (grind (arith, nat_tests))))

  fails_by : (a b : Option TrustFault) → of_nodes ≡ a → of_outputs ≡ b → (fault : TrustFault) → earlier_fault a b ≡ Some fault → IsFirstBreach graph fault
  unfolding TrustBefore ReleaseBefore
  fails_by None None nodes outputs fault some = absurd cc
  fails_by None (Some b) nodes outputs fault some =
      let same : b ≡ fault = cc in
      subst (IsFirstBreach graph) same (output_first b outputs (λ k n at below. no_node nodes k n at))
  fails_by (Some a) None nodes outputs fault some =
      let same : a ≡ fault = cc in
      subst (IsFirstBreach graph) same (node_first a nodes (λ k o at below. no_output outputs k o at))
  fails_by (Some a) (Some b) nodes outputs fault some = both_first a b fault nodes outputs (nat_le (line_of a) (line_of b)) refl some

  fails : (fault : TrustFault) → first_fault graph (trust_of graph.nodes) ≡ Some fault → IsFirstBreach graph fault
  unfolding of_nodes of_outputs
  fails fault some = fails_by of_nodes of_outputs refl refl fault some

  earlier_none : (a b : Option TrustFault) → earlier_fault a b ≡ None → (a ≡ None) × (b ≡ None)
  earlier_none None None none = (refl, refl)
  earlier_none None (Some b) none = absurd cc
  earlier_none (Some a) None none = absurd cc
  earlier_none (Some a) (Some b) none = absurd cc

  keeps : first_fault graph (trust_of graph.nodes) ≡ None → KeepsRules graph
  unfolding of_nodes of_outputs
  keeps none =
      let both = earlier_none of_nodes of_outputs none in
      record {
        trust = λ i d within.
            let at = slice_get-get_or graph.nodes i d within in
            keeps_trust graph is i (get_or graph.nodes i d) at (no_node both.0 i (get_or graph.nodes i d) at);
        release = λ i d within. keeps_release graph is (get_or graph.outputs i d) (no_output both.1 i (get_or graph.outputs i d) (slice_get-get_or graph.outputs i d within));
      }

  contradict : (fault : TrustFault) → KeepsRules graph → IsFirstBreach graph fault → ⊥
  contradict (faults.Trust line node source party column) rules breach =
      let n = breach.node in
      let keeps = subst (KeepsTrust graph.nodes) (get_or_from_slice_get graph.nodes node n n breach.at) (rules.trust node n (slice_get_within graph.nodes node n breach.at)) in
      false≢true (sym breach.unknown ∙ keeps party breach.place source column breach.asks)
  contradict (faults.Release line node party relation) rules breach =
      let o = breach.output in
      let keeps = subst (KeepsRelease graph.nodes) (get_or_from_slice_get graph.outputs breach.place o o breach.at) (rules.release breach.place o (slice_get_within graph.outputs breach.place o breach.at)) in
      let under = subst (IsUnder graph.nodes relation) (sym breach.of_node) breach.under in
      let kept = breach.kept in
      false≢true (sym kept.kept ∙ keeps party relation kept.written breach.recipient under (record { node = kept.node; at = kept.at; is = kept.is }))

  passes_by : (o : Option TrustFault) → first_fault graph (trust_of graph.nodes) ≡ o → KeepsRules graph → first_fault graph (trust_of graph.nodes) ≡ None
  passes_by None is_none rules = is_none
  passes_by (Some fault) is_some rules = absurd (contradict fault rules (fails fault is_some))

  passes : KeepsRules graph → first_fault graph (trust_of graph.nodes) ≡ None
  passes rules = passes_by (first_fault graph (trust_of graph.nodes)) refl rules

pub rules_in_words : RulesInWords
rules_in_words = record {
  passes = λ graph is. (keeps graph is, passes graph is);
  fails = λ graph fault is some. fails graph is fault some;
}
