-- The fault of a graph is the first statement that breaks a rule.
use Rattle.std.proofs.Common.{◌≡◌, ℕ, zero, suc, ◌+◌, ◌<◌, ◌≤◌, ◌⊎◌, inl, inr, Bool, true, false, cond, not, ◌&&◌, List, [], ◌∷◌, Option, Some, None, length, refl, sym, ap, ◌∙◌, subst, arith}
use Rattle.std.specs.Prelude.{◌==◌, slice_get, IsSomeAnd}
use Rattle.std.specs.Option.{option_map, option_or}
use Rattle.std.proofs.lemmas.Bool.{cases_lt, false≢true, true≢false}
use Rattle.std.proofs.lemmas.Bool.Decides.{nat_tests}
use Rattle.words.specs.declared.column.Column.{Column}
use Rattle.query_text.specs.Parties.{IsParty}
use Rattle.query_graph.specs.declared.node.Node.{Node}
use Rattle.query_graph.specs.declared.node.Output.{Output}
use Rattle.query_graph.specs.declared.operator.Operator.{Operator}
use Rattle.query_graph.specs.declared.operator.Operator.TheVariants as operators
use Rattle.query_graph.specs.declared.operator.Relation.{Relation}
use Rattle.query_graph.specs.declared.parties.Parties.{Parties}
use Rattle.query_graph.specs.Content.{Content}
use Rattle.query_graph.specs.IsGraph.{IsGraph}
use Rattle.query_graph.specs.Parties.{has}
use Rattle.query_graph.specs.Observers.{sources_of}
use Rattle.trust_sets.specs.declared.fault.TrustFault.{TrustFault}
use Rattle.trust_sets.specs.declared.fault.TrustFault.TheVariants as faults
use Rattle.trust_sets.specs.declared.known.Known.{Known}
use Rattle.trust_sets.specs.Agreement.{IsRelation}
use Rattle.trust_sets.specs.Faults.{columns_at, fault_at, is_needed, line_of, named_by, node_fault, output_fault, recipient_fault, source_fault, sources_fault, untrusted_column}
use Rattle.trust_sets.specs.Known.{column_set, known_at, known_nodes}
use Rattle.trust_sets.specs.Laws.{KnowsColumn}
use Rattle.trust_sets.specs.Release.{release_set, withheld_at, withheld_from, withheld_nodes}
use Rattle.trust_sets.specs.Rules.{Asks, BreaksRelease, BreaksTrust, IsFirstBreach, KeepsRelease, KeepsRulesBefore, KeepsTrust}
use Rattle.trust_sets.specs.Under.{IsUnder, IsUnreleased}
use Rattle.trust_sets.proofs.Asked.{Needs, asked_of, needs_of}
use Rattle.trust_sets.proofs.Unreleased.{withheld_is_first}

pub some_same : {A : Type 0} (x y : A) (o : Option A) → o ≡ Some x → o ≡ Some y → x ≡ y
some_same x y o first second = let both : Some x ≡ Some y = sym first ∙ second in cc

-- ---- the first column of a source that isn't trusted

-- the column with this number, at this place or behind it, is needed and unknown, and those before it are known or not needed
pub record FindsColumn (shape : Operator) (right : Bool) (source : Known) (party number width c : ℕ) : Type 0 where
  pub above : number ≤ c
  pub within : c < number + width
  pub needed : is_needed shape right c ≡ true
  pub unknown : has (column_set source c) party ≡ false
  pub lower : (k : ℕ) → number ≤ k → k < c → is_needed shape right k ≡ true → KnowsColumn party source k

module _ (shape : Operator) (right : Bool) (source : Known) (party : ℕ) where
  knows_here : (needed known : Bool) → (needed && not known) ≡ false → needed ≡ true → known ≡ true
  knows_here true true both is = refl
  knows_here true false both is = absurd (true≢false both)
  knows_here false known both is = absurd (false≢true is)

  both_here : (needed known : Bool) → (needed && not known) ≡ true → (needed ≡ true) × (known ≡ false)
  both_here true true both = absurd (false≢true both)
  both_here true false both = (refl, refl)
  both_here false known both = absurd (false≢true both)

  none_here : (number : ℕ) (columns : List Column) (here : Bool) → (is_needed shape right number && not (has (column_set source number) party)) ≡ here
      → cond here (Some number) (untrusted_column shape right source party (number + 1) columns) ≡ None
      → (here ≡ false) × (untrusted_column shape right source party (number + 1) columns ≡ None)
  none_here number columns true is none = absurd cc
  none_here number columns false is none = (refl, none)

  pub no_column : (number : ℕ) (columns : List Column) → untrusted_column shape right source party number columns ≡ None
      → (c : ℕ) → number ≤ c → c < number + length columns → is_needed shape right c ≡ true → KnowsColumn party source c
  no_column number [] none c above within needed = absurd (omega (arith, above, within))
  no_column number (column ∷ columns) none c above within needed =
      let parts = none_here number columns (is_needed shape right number && not (has (column_set source number) party)) refl none in
      elim (cases_lt number c) [
        | inl more ↦ no_column (number + 1) columns parts.1 c (omega (arith, more)) (omega (arith, within)) needed
        | inr last ↦
            let same : number ≡ c = omega (arith, above, last) in
            knows_here (is_needed shape right c) (has (column_set source c) party)
            (subst (λ k. (is_needed shape right k && not (has (column_set source k) party)) ≡ false) same parts.0) needed
      ]

  further : (number width c : ℕ) → (is_needed shape right number && not (has (column_set source number) party)) ≡ false → FindsColumn shape right source party (number + 1) width c
      → FindsColumn shape right source party number (suc width) c
  further number width c here found = record {
    above = omega (arith, found.above);
    within = omega (arith, found.within);
    needed = found.needed;
    unknown = found.unknown;
    lower = λ k above below needed. elim (cases_lt number k) [
      | inl more ↦ found.lower k (omega (arith, more)) below needed
      | inr last ↦
          let same : number ≡ k = omega (arith, above, last) in
          knows_here (is_needed shape right k) (has (column_set source k) party)
          (subst (λ j. (is_needed shape right j && not (has (column_set source j) party)) ≡ false) same here) needed
    ];
  }

  found_here : (number c : ℕ) (columns : List Column) (here : Bool) → (is_needed shape right number && not (has (column_set source number) party)) ≡ here
      → cond here (Some number) (untrusted_column shape right source party (number + 1) columns) ≡ Some c
      → (untrusted_column shape right source party (number + 1) columns ≡ Some c → FindsColumn shape right source party (number + 1) (length columns) c)
      → FindsColumn shape right source party number (suc (length columns)) c
  found_here number c columns true is some rest =
      let same : number ≡ c = cc in
      let both = both_here (is_needed shape right number) (has (column_set source number) party) is in
      subst (FindsColumn shape right source party number (suc (length columns))) same (record {
        above = omega arith;
        within = omega arith;
        needed = both.0;
        unknown = both.1;
        lower = λ k above below needed. absurd (omega (arith, above, below));
      })
  found_here number c columns false is some rest = further number (length columns) c is (rest some)

  pub some_column : (number : ℕ) (columns : List Column) (c : ℕ) → untrusted_column shape right source party number columns ≡ Some c
      → FindsColumn shape right source party number (length columns) c
  some_column number [] c some = absurd cc
  some_column number (column ∷ columns) c some =
      found_here number c columns (is_needed shape right number && not (has (column_set source number) party)) refl some (some_column (number + 1) columns c)

from_first : (c width : ℕ) → c < 0 + width → c < width
from_first c width within = omega (arith, within)

-- ---- the first source of a node

option_none : {A B : Type 0} (f : A → B) (o : Option A) → option_map f o ≡ None → o ≡ None
option_none f None none = refl
option_none f (Some x) none = absurd cc

option_some : {A B : Type 0} (f : A → B) (o : Option A) (y : B) → option_map f o ≡ Some y → (x : A) × (o ≡ Some x) × (f x ≡ y)
option_some f None y some = absurd cc
option_some f (Some x) y some = (x, refl, cc)

pub either_none : {A : Type 0} (a b : Option A) → option_or a b ≡ None → (a ≡ None) × (b ≡ None)
either_none None b none = (refl, none)
either_none (Some x) b none = absurd cc

pub either_some : {A : Type 0} (a b : Option A) (x : A) → option_or a b ≡ Some x → (a ≡ Some x) ⊎ ((a ≡ None) × (b ≡ Some x))
either_some None b x some = inr (refl, some)
either_some (Some y) b x some = inl some

-- the source at this place has the fault, and those before it have none
record FindsSource (fault : Bool → ℕ → Option TrustFault) (shape : Operator) (found : TrustFault) : Type 0 where
  pub place : ℕ
  pub source : ℕ
  pub side : place < 2
  pub is_source : slice_get (sources_of shape) place ≡ Some source
  pub faulty : fault (place == 1) source ≡ Some found
  pub earlier : (k s : ℕ) → k < place → slice_get (sources_of shape) k ≡ Some s → fault (k == 1) s ≡ None

module _ (graph : Content) (known : List Known) (number : ℕ) (node : Node) (party : ℕ) where
  abbrev pub fault_in : Bool → ℕ → Option TrustFault
  fault_in right source = source_fault graph known number node party right source

  one_none : (s place source : ℕ) → fault_in false s ≡ None → slice_get (s ∷ []) place ≡ Some source → fault_in (place == 1) source ≡ None
  one_none s zero source none is = let same : s ≡ source = cc in subst (λ t. fault_in false t ≡ None) same none
  one_none s (suc place) source none is = absurd cc

  two_none : (l r place source : ℕ) → (fault_in false l ≡ None) × (fault_in true r ≡ None) → slice_get (l ∷ r ∷ []) place ≡ Some source → fault_in (place == 1) source ≡ None
  two_none l r zero source none is = let same : l ≡ source = cc in subst (λ t. fault_in false t ≡ None) same none.0
  two_none l r (suc zero) source none is = let same : r ≡ source = cc in subst (λ t. fault_in true t ≡ None) same none.1
  two_none l r (suc (suc place)) source none is = absurd cc

  no_source : (shape : Operator) → sources_fault graph known number node party shape ≡ None → named_by shape ≡ Some party → (place source : ℕ) → slice_get (sources_of shape) place ≡ Some source
      → fault_in (place == 1) source ≡ None
  no_source (operators.Relation r) none named place source is = absurd cc
  no_source (operators.Filter f) none named place source is = one_none f.source place source none is
  no_source (operators.Select s) none named place source is = one_none s.source place source none is
  no_source (operators.Concat c) none named place source is = absurd cc
  no_source (operators.Join j) none named place source is = two_none j.left j.right place source (either_none _ _ none) is
  no_source (operators.Group g) none named place source is = one_none g.source place source none is
  no_source (operators.Distinct d) none named place source is = one_none d.source place source none is

  first_source : (shape : Operator) (s : ℕ) (found : TrustFault) → slice_get (sources_of shape) 0 ≡ Some s → fault_in false s ≡ Some found → FindsSource fault_in shape found
  first_source shape s found is some =
      record { place = 0; source = s; side = omega arith; is_source = is; faulty = some; earlier = λ k t below at. absurd (omega (arith, below)) }

  second_source : (shape : Operator) (l r : ℕ) (found : TrustFault) → slice_get (sources_of shape) 0 ≡ Some l → slice_get (sources_of shape) 1 ≡ Some r → fault_in false l ≡ None → fault_in true r ≡ Some found
      → FindsSource fault_in shape found
  second_source shape l r found first second none some =
      record { place = 1; source = r; side = omega arith; is_source = second; faulty = some; earlier = before }
    where
      before : (k t : ℕ) → k < 1 → slice_get (sources_of shape) k ≡ Some t → fault_in (k == 1) t ≡ None
      before zero t below at = subst (λ u. fault_in false u ≡ None) (some_same l t (slice_get (sources_of shape) 0) first at) none
      before (suc k) t below at = absurd (omega (arith, below))

  some_source : (shape : Operator) (found : TrustFault) → sources_fault graph known number node party shape ≡ Some found → FindsSource fault_in shape found
  some_source (operators.Relation r) found some = absurd cc
  some_source (operators.Filter f) found some = first_source (operators.Filter f) f.source found refl some
  some_source (operators.Select s) found some = first_source (operators.Select s) s.source found refl some
  some_source (operators.Concat c) found some = absurd cc
  some_source (operators.Join j) found some = elim (either_some (fault_in false j.left) (fault_in true j.right) found some) [
    | inl left ↦ first_source (operators.Join j) j.left found refl left
    | inr right ↦ second_source (operators.Join j) j.left j.right found refl refl right.0 right.1
  ]
  some_source (operators.Group g) found some = first_source (operators.Group g) g.source found refl some
  some_source (operators.Distinct d) found some = first_source (operators.Distinct d) d.source found refl some

-- ---- a node

module _ (graph : Content) (is_graph : IsGraph graph) (number : ℕ) (node : Node) (at : slice_get graph.nodes number ≡ Some node) where
  needs_here : (party place source column : ℕ) → Asks graph.nodes node.shape party place source column → Needs node.shape party place column (length (columns_at graph.nodes source))
  needs_here party place source column asks = needs_of graph.nodes number node node.shape party place source column (is_graph.nodes number node at).sources asks

  knows_column : (party place source column : ℕ) → Needs node.shape party place column (length (columns_at graph.nodes source)) → fault_in graph (known_nodes graph.nodes) number node party (place == 1) source ≡ None
      → KnowsColumn party (known_at (known_nodes graph.nodes) source) column
  knows_column party place source column needs none =
      let within = needs.within in
      no_column node.shape (place == 1) (known_at (known_nodes graph.nodes) source) party 0 (columns_at graph.nodes source) (option_none _ _ none) column (omega arith) (omega (arith, within)) needs.needed

  pub keeps_trust : node_fault graph (known_nodes graph.nodes) number node ≡ None → KeepsTrust graph.nodes node
  keeps_trust none party place source column asks =
      let needs = needs_here party place source column asks in
      let inner : sources_fault graph (known_nodes graph.nodes) number node party node.shape ≡ None = sym (ap (fault_at graph (known_nodes graph.nodes) number node) needs.named) ∙ none in
      knows_column party place source column needs (no_source graph (known_nodes graph.nodes) number node party node.shape inner needs.named place source asks.is_source)

  named_party : (o : Option ℕ) (fault : TrustFault) → fault_at graph (known_nodes graph.nodes) number node o ≡ Some fault
      → (party : ℕ) × (o ≡ Some party) × (sources_fault graph (known_nodes graph.nodes) number node party node.shape ≡ Some fault)
  named_party None fault some = absurd cc
  named_party (Some party) fault some = (party, refl, some)

  pub breaks_trust : (fault : TrustFault) → node_fault graph (known_nodes graph.nodes) number node ≡ Some fault → KeepsRulesBefore graph node.line → IsFirstBreach graph fault
  breaks_trust fault some before =
      let known = known_nodes graph.nodes in
      let named = named_party (named_by node.shape) fault some in
      let party = named.0 in
      let found = some_source graph known number node party node.shape fault named.2 in
      let source = found.source in
      let column = option_some _ _ fault found.faulty in
      let finds = some_column node.shape (found.place == 1) (known_at known source) party 0 (columns_at graph.nodes source) column.0 column.1 in
      let breach : BreaksTrust graph node.line number source party column.0 = record {
        node = node;
        at = at;
        on_line = refl;
        place = found.place;
        asks = record { is_source = found.is_source; asked = asked_of node.shape party found.place column.0 (length (columns_at graph.nodes source)) found.side named.1 finds.needed (from_first column.0 (length (columns_at graph.nodes source)) finds.within) };
        unknown = finds.unknown;
        first = λ place' source' column' asks earlier.
            let needs = needs_here party place' source' column' asks in
            elim earlier [
              | inl lower ↦ knows_column party place' source' column' needs (found.earlier place' source' lower asks.is_source)
              | inr here ↦
                  let same : source ≡ source' = some_same source source' (slice_get (sources_of node.shape) found.place) found.is_source
                  (subst (λ p. slice_get (sources_of node.shape) p ≡ Some source') here.0 asks.is_source) in
                  subst (λ s. KnowsColumn party (known_at known s) column') same
                  (finds.lower column' (omega arith) here.1 (subst (λ p. is_needed node.shape (p == 1) column' ≡ true) here.0 needs.needed))
            ];
        before = before;
      } in
      subst (IsFirstBreach graph) column.2 breach

  -- the fault names the statement's line
  pub line_of_node : (fault : TrustFault) → node_fault graph (known_nodes graph.nodes) number node ≡ Some fault → line_of fault ≡ node.line
  line_of_node fault some =
      let named = named_party (named_by node.shape) fault some in
      let found = some_source graph (known_nodes graph.nodes) number node named.0 node.shape fault named.2 in
      let column = option_some _ _ fault found.faulty in
      sym (ap line_of column.2)

-- ---- an output

-- no set has a greater number
not_party : (set : Parties) (party : ℕ) → 3 < party → has set party ≡ false
not_party set party more =
    let first : (party == 1) ≡ false = grind (arith, nat_tests) in
    let second : (party == 2) ≡ false = grind (arith, nat_tests) in
    let third : (party == 3) ≡ false = grind (arith, nat_tests) in
    rw (first, second, third) refl

is_party : (set : Parties) (party : ℕ) → has set party ≡ true → IsParty party
is_party set zero is = absurd (false≢true is)
is_party set (suc zero) is = (omega arith, omega arith)
is_party set (suc (suc zero)) is = (omega arith, omega arith)
is_party set (suc (suc (suc zero))) is = (omega arith, omega arith)
is_party set (suc (suc (suc (suc party)))) is = absurd (false≢true (sym (not_party set (suc (suc (suc (suc party)))) (omega arith)) ∙ is))

module _ (graph : Content) (is_graph : IsGraph graph) (output : Output) where
  fault_for : ℕ → Option TrustFault
  fault_for party = recipient_fault (withheld_nodes graph.nodes) output party

  withheld_for : ℕ → Option ℕ
  withheld_for party = withheld_from (withheld_at (withheld_nodes graph.nodes) output.node) party

  none_withheld : (party : ℕ) (to : Bool) → cond to (option_map (faults.Release output.line output.node party) (withheld_for party)) None ≡ None → to ≡ true → withheld_for party ≡ None
  none_withheld party true none is = option_none _ (withheld_for party) none
  none_withheld party false none is = absurd (false≢true is)

  some_withheld : (party : ℕ) (to : Bool) (fault : TrustFault) → cond to (option_map (faults.Release output.line output.node party) (withheld_for party)) None ≡ Some fault
      → (to ≡ true) × ((relation : ℕ) × (withheld_for party ≡ Some relation) × (faults.Release output.line output.node party relation ≡ fault))
  some_withheld party true fault some = (refl, option_some (faults.Release output.line output.node party) (withheld_for party) fault some)
  some_withheld party false fault some = absurd cc

  not_withheld : (party relation : ℕ) (r : Relation) (released : Bool) → has (release_set r) party ≡ released → withheld_for party ≡ None → IsParty party → IsUnder graph.nodes relation output.node
      → IsRelation graph.nodes relation r → released ≡ true
  unfolding withheld_for
  not_withheld party relation r true is none one under at = refl
  not_withheld party relation r false is none one under at =
      let unreleased : IsUnreleased graph.nodes party relation = record { node = at.node; at = at.at; written = r; is = at.is; kept = is } in
      absurd (subst (λ o. IsSomeAnd o (λ f. f ≤ relation)) none (withheld_is_first.first graph is_graph output.node party relation one under unreleased))

  released : (party : ℕ) → fault_for party ≡ None → has output.recipients party ≡ true → (relation : ℕ) (r : Relation) → IsUnder graph.nodes relation output.node → IsRelation graph.nodes relation r
      → has (release_set r) party ≡ true
  unfolding fault_for withheld_for
  released party none to relation r under at =
      not_withheld party relation r (has (release_set r) party) refl (none_withheld party (has output.recipients party) none to) (is_party output.recipients party to) under at

  each_none : output_fault (withheld_nodes graph.nodes) output ≡ None → (party : ℕ) → IsParty party → fault_for party ≡ None
  unfolding fault_for
  each_none none zero one = absurd (omega (arith, one.0))
  each_none none (suc zero) one = (either_none _ _ none).0
  each_none none (suc (suc zero)) one = (either_none _ _ (either_none _ _ none).1).0
  each_none none (suc (suc (suc zero))) one = (either_none _ _ (either_none _ _ none).1).1
  each_none none (suc (suc (suc (suc party)))) one = absurd (omega (arith, one.1))

  pub keeps_release : output_fault (withheld_nodes graph.nodes) output ≡ None → KeepsRelease graph.nodes output
  keeps_release none party relation r to under at = released party (each_none none party (is_party output.recipients party to)) to relation r under at

  -- the lowest recipient with a fault
  record FindsRecipient (fault : TrustFault) : Type 0 where
    pub party : ℕ
    pub faulty : fault_for party ≡ Some fault
    pub lower : (q : ℕ) → q < party → IsParty q → fault_for q ≡ None

  lowest : (fault : TrustFault) → option_or (fault_for 1) (option_or (fault_for 2) (fault_for 3)) ≡ Some fault → FindsRecipient fault
  lowest fault some = elim (either_some (fault_for 1) (option_or (fault_for 2) (fault_for 3)) fault some) [
    | inl first ↦ record { party = 1; faulty = first; lower = λ q below one. absurd (omega (arith, below, one.0)) }
    | inr others ↦ elim (either_some (fault_for 2) (fault_for 3) fault others.1) [
      | inl second ↦ record { party = 2; faulty = second; lower = λ q below one. let same : 1 ≡ q = omega (arith, below, one.0) in subst (λ p. fault_for p ≡ None) same others.0 }
      | inr third ↦ record { party = 3; faulty = third.1; lower = λ q below one. below_third others.0 third.0 q below one }
    ]
  ]
    where
      below_third : fault_for 1 ≡ None → fault_for 2 ≡ None → (q : ℕ) → q < 3 → IsParty q → fault_for q ≡ None
      below_third first second zero below one = absurd (omega (arith, one.0))
      below_third first second (suc zero) below one = first
      below_third first second (suc (suc zero)) below one = second
      below_third first second (suc (suc (suc q))) below one = absurd (omega (arith, below))

  pub line_of_output : (fault : TrustFault) → output_fault (withheld_nodes graph.nodes) output ≡ Some fault → line_of fault ≡ output.line
  unfolding fault_for withheld_for
  line_of_output fault some =
      let found = lowest fault some in
      let parts = some_withheld found.party (has output.recipients found.party) fault found.faulty in
      sym (ap line_of parts.1.2)

  found_first : (party relation other : ℕ) (o : Option ℕ) → o ≡ Some relation → IsSomeAnd o (λ f. f ≤ other) → relation ≤ other
  found_first party relation other None some first = absurd first
  found_first party relation other (Some f) some first = let same : f ≡ relation = cc in subst (λ g. g ≤ other) same first

  pub breaks_release : (place : ℕ) (fault : TrustFault) → slice_get graph.outputs place ≡ Some output → output_fault (withheld_nodes graph.nodes) output ≡ Some fault → KeepsRulesBefore graph output.line
      → IsFirstBreach graph fault
  unfolding fault_for withheld_for
  breaks_release place fault at some before =
      let found = lowest fault some in
      let party = found.party in
      let parts = some_withheld party (has output.recipients party) fault found.faulty in
      let relation = parts.1.0 in
      let one = is_party output.recipients party parts.0 in
      let breach : BreaksRelease graph output.line output.node party relation = record {
        output = output;
        place = place;
        at = at;
        on_line = refl;
        of_node = refl;
        recipient = parts.0;
        under = withheld_is_first.under graph is_graph output.node party relation parts.1.1;
        kept = withheld_is_first.kept graph is_graph output.node party relation parts.1.1;
        lowest = λ lower other r below to under stands. released lower (found.lower lower below (is_party output.recipients lower to)) to other r under stands;
        first = λ other under unreleased. found_first party relation other (withheld_for party) parts.1.1 (withheld_is_first.first graph is_graph output.node party other one under unreleased);
        before = before;
      } in
      subst (IsFirstBreach graph) parts.1.2 breach
