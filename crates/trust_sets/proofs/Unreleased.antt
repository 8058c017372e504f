-- The first relation under a node that isn't released.
use Rattle.std.proofs.Common.{◌≡◌, inl, inr, ℕ, ◌+◌, ◌<◌, ◌≤◌, ◌||◌, Bool, true, false, cond, nat_eq, List, [], ◌∷◌, ◌++◌, Option, Some, None, map, length, zero, suc, refl, sym, ap, ◌∙◌, subst, arith, add-zero, zero-add}
use Rattle.std.specs.Prelude.{slice_get, IsSomeAnd}
use Rattle.std.specs.List.{All, Contains, fold}
use Rattle.std.proofs.lemmas.List.Elements.{All-cons, All-head, All-contains, All-contains_itself, All-nil, All-tail, All-weaker}
use Rattle.std.proofs.lemmas.List.{get_or_append_left, get_or_past, get_or_push, length_push}
use Rattle.std.proofs.lemmas.Option.{slice_get_within}
use Rattle.std.proofs.lemmas.Bool.{cases_lt}
use Rattle.std.proofs.Math.Nat.{min-eq_left, min-eq_right, min-le_left, min-le_right}
use Rattle.query_text.specs.Parties.{IsParty}
use Rattle.query_graph.specs.declared.node.Node.{Node}
use Rattle.query_graph.specs.declared.operator.Operator.{Operator}
use Rattle.query_graph.specs.declared.operator.Operator.TheVariants as operators
use Rattle.query_graph.specs.declared.operator.Relation.{Relation}
use Rattle.query_graph.specs.Content.{Content}
use Rattle.query_graph.specs.IsGraph.{FitsSources, IsGraph, IsSource}
use Rattle.query_graph.specs.Observers.{sources_of}
use Rattle.query_graph.specs.Parties.{has}
use Rattle.trust_sets.specs.declared.withheld.Withheld.{Withheld}
use Rattle.trust_sets.specs.Release.{first_relation, nothing_withheld, release_set, withheld_at, withheld_behind, withheld_from, withheld_node, withheld_nodes, withheld_of_both, withheld_relation}
use Rattle.trust_sets.specs.Under.{IsUnder, itself, source, IsUnreleased, WithheldIsFirst}

-- what is named for a node is under it and not released, and no earlier relation under it is
record Says (nodes : List Node) (party node : ℕ) (w : Withheld) : Type 0 where
  under : (r : ℕ) → withheld_from w party ≡ Some r → IsUnder nodes r node
  kept : (r : ℕ) → withheld_from w party ≡ Some r → IsUnreleased nodes party r
  first : IsParty party → (r : ℕ) → IsUnder nodes r node → IsUnreleased nodes party r → IsSomeAnd (withheld_from w party) (λ f. f ≤ r)

pick_first : (p q r : Bool) (a b c d e f : Option ℕ) → cond p (first_relation a b) (cond q (first_relation c d) (cond r (first_relation e f) None)) ≡ first_relation (cond p a (cond q c (cond r e None))) (cond p b (cond q d (cond r f None)))
pick_first true q r a b c d e f = refl
pick_first false true r a b c d e f = refl
pick_first false false true a b c d e f = refl
pick_first false false false a b c d e f = refl

from_both : (a b : Withheld) (party : ℕ) → withheld_from (withheld_of_both a b) party ≡ first_relation (withheld_from a party) (withheld_from b party)
from_both a b party = pick_first (nat_eq party 1) (nat_eq party 2) (nat_eq party 3) a.first b.first a.second b.second a.third b.third

first_is : {G : Type 0} (a b : Option ℕ) (r : ℕ) → first_relation a b ≡ Some r → (a ≡ Some r → G) → (b ≡ Some r → G) → G
first_is None b r is left right = right is
first_is (Some x) None r is left right = left is
first_is (Some x) (Some y) r is left right = elim (cases_lt x y) [
  | inl less ↦ let h : x ≤ y = omega arith in left (ap Some (sym (min-eq_left h)) ∙ is)
  | inr more ↦ right (ap Some (sym (min-eq_right more)) ∙ is)
]

first_left : (a b : Option ℕ) (r : ℕ) → IsSomeAnd a (λ f. f ≤ r) → IsSomeAnd (first_relation a b) (λ f. f ≤ r)
first_left None b r some = absurd some
first_left (Some x) None r some = some
first_left (Some x) (Some y) r some = let below = min-le_left x y in omega (arith, below)

first_right : (a b : Option ℕ) (r : ℕ) → IsSomeAnd b (λ f. f ≤ r) → IsSomeAnd (first_relation a b) (λ f. f ≤ r)
first_right None b r some = some
first_right (Some x) None r some = absurd some
first_right (Some x) (Some y) r some = let below = min-le_right x y in omega (arith, below)

fold_is : (earlier : List Withheld) (party : ℕ) (G : ℕ → Type 0) (sources : List ℕ) (w : Withheld) → ((r : ℕ) → withheld_from w party ≡ Some r → G r)
    → All (λ s. (r : ℕ) → withheld_from (withheld_at earlier s) party ≡ Some r → G r) sources
    → (r : ℕ) → withheld_from (fold withheld_of_both w (map (withheld_at earlier) sources)) party ≡ Some r → G r
fold_is earlier party G [] w here all r is = here r is
fold_is earlier party G (s ∷ sources) w here all r is =
    let Q : ℕ → Type 0 = λ s. (r : ℕ) → withheld_from (withheld_at earlier s) party ≡ Some r → G r in
    let next = withheld_at earlier s in
    fold_is earlier party G sources (withheld_of_both w next)
    (λ q now. first_is {G = G q} (withheld_from w party) (withheld_from next party) q (sym (from_both w next party) ∙ now) (here q) (All-head Q s sources all q)) (All-tail Q s sources all) r is

fold_stays : (earlier : List Withheld) (party r : ℕ) (sources : List ℕ) (w : Withheld) → IsSomeAnd (withheld_from w party) (λ f. f ≤ r)
    → IsSomeAnd (withheld_from (fold withheld_of_both w (map (withheld_at earlier) sources)) party) (λ f. f ≤ r)
fold_stays earlier party r [] w some = some
fold_stays earlier party r (s ∷ sources) w some =
    let next = withheld_at earlier s in
    fold_stays earlier party r sources (withheld_of_both w next)
    (subst (λ o. IsSomeAnd o (λ f. f ≤ r)) (sym (from_both w next party)) (first_left (withheld_from w party) (withheld_from next party) r some))

fold_below : (earlier : List Withheld) (party r : ℕ) (sources : List ℕ) (w : Withheld)
    → All (λ s. IsSomeAnd (withheld_from (withheld_at earlier s) party) (λ f. f ≤ r) → IsSomeAnd (withheld_from (fold withheld_of_both w (map (withheld_at earlier) sources)) party) (λ f. f ≤ r)) sources
fold_below earlier party r [] w = All-nil _
fold_below earlier party r (s ∷ sources) w =
    let next = withheld_at earlier s in
    let both = withheld_of_both w next in
    All-cons (λ s. IsSomeAnd (withheld_from (withheld_at earlier s) party) (λ f. f ≤ r) → IsSomeAnd (withheld_from (fold withheld_of_both both (map (withheld_at earlier) sources)) party) (λ f. f ≤ r)) s sources
    (λ some. fold_stays earlier party r sources both
    (subst (λ o. IsSomeAnd o (λ f. f ≤ r)) (sym (from_both w next party)) (first_right (withheld_from w party) (withheld_from next party) r some)))
    (fold_below earlier party r sources both)

not_some : (r : ℕ) → None ≡ Some r → ⊥
not_some r is = cc

same_node : (a b : Node) → Some a ≡ Some b → a ≡ b
same_node a b is = cc

under_cases : {G : Type 0} (nodes : List Node) (r node : ℕ) (n : Node) → slice_get nodes node ≡ Some n → IsUnder nodes r node → (r ≡ node → G)
    → ((s : ℕ) → Contains (sources_of n.shape) s → IsUnder nodes r s → G) → G
under_cases nodes r _ n at itself same further = same refl
under_cases nodes r _ n at (source node s m found member rest) same further =
    let equal : m ≡ n = same_node m n (sym found ∙ at) in further s (subst (λ (n : Node). Contains (sources_of n.shape) s) equal member) rest

nothing_from : (party : ℕ) → withheld_from nothing_withheld party ≡ None
nothing_from party = none (nat_eq party 1) (nat_eq party 2) (nat_eq party 3)
  where
    none : (p q r : Bool) → let nil : Option ℕ = None in cond p nil (cond q nil (cond r nil nil)) ≡ nil
    none true q r = refl
    none false true r = refl
    none false false true = refl
    none false false false = refl

-- a node that isn't a relation has what its sources have
other_says : (nodes : List Node) (party node : ℕ) (n : Node) (shape : Operator) (earlier : List Withheld) → slice_get nodes node ≡ Some n → n.shape ≡ shape → ((r : Relation) → shape ≡ operators.Relation r → ⊥)
    → All (λ s. Says nodes party s (withheld_at earlier s)) (sources_of shape) → Says nodes party node (fold withheld_of_both nothing_withheld (map (withheld_at earlier) (sources_of shape)))
other_says nodes party node n shape earlier at same other all =
    let sources = sources_of shape in
    let P : ℕ → Type 0 = λ s. Says nodes party s (withheld_at earlier s) in
    let none : (r : ℕ) → withheld_from nothing_withheld party ≡ Some r → ⊥ = λ r is. not_some r (sym (nothing_from party) ∙ is) in
    record {
      under = fold_is earlier party (λ r. IsUnder nodes r node) sources nothing_withheld (λ r is. absurd (none r is))
          (All-weaker (Contains sources) (λ s. (r : ℕ) → withheld_from (withheld_at earlier s) party ≡ Some r → IsUnder nodes r node)
          (λ s member r is. source node s n at (subst (λ sh. Contains (sources_of sh) s) (sym same) member) ((All-contains P sources s all member).under r is)) sources (All-contains_itself sources));
      kept = fold_is earlier party (λ r. IsUnreleased nodes party r) sources nothing_withheld (λ r is. absurd (none r is))
          (All-weaker P (λ s. (r : ℕ) → withheld_from (withheld_at earlier s) party ≡ Some r → IsUnreleased nodes party r) (λ s says. says.kept) sources all);
      first = λ is_party r under unreleased.
          let whole = withheld_from (fold withheld_of_both nothing_withheld (map (withheld_at earlier) sources)) party in
          let G = IsSomeAnd whole (λ f. f ≤ r) in
          under_cases {G = G} nodes r node n at under
          (λ e. let equal : n ≡ unreleased.node = same_node n unreleased.node (sym at ∙ ap (slice_get nodes) (sym e) ∙ unreleased.at) in
          absurd (other unreleased.written (sym same ∙ ap (λ (n : Node). n.shape) equal ∙ unreleased.is)))
          (λ s member rest. let inside = subst (λ sh. Contains (sources_of sh) s) same member in
          All-contains (λ s. IsSomeAnd (withheld_from (withheld_at earlier s) party) (λ f. f ≤ r) → G) sources s (fold_below earlier party r sources nothing_withheld) inside
          ((All-contains P sources s all inside).first is_party r rest unreleased));
    }

named : (p q r a b c : Bool) (n x : ℕ) → let nil : Option ℕ = None in cond p (cond a nil (Some n)) (cond q (cond b nil (Some n)) (cond r (cond c nil (Some n)) nil)) ≡ Some x
    → (x ≡ n) × (cond p a (cond q b (cond r c false)) ≡ false)
named true q r true b c n x is = absurd cc
named true q r false b c n x is = (cc, refl)
named false true r a true c n x is = absurd cc
named false true r a false c n x is = (cc, refl)
named false false true a b true n x is = absurd cc
named false false true a b false n x is = (cc, refl)
named false false false a b c n x is = absurd cc

kept_here : (p q r a b c : Bool) (n : ℕ) → (p || (q || r)) ≡ true → cond p a (cond q b (cond r c false)) ≡ false
    → let nil : Option ℕ = None in cond p (cond a nil (Some n)) (cond q (cond b nil (Some n)) (cond r (cond c nil (Some n)) nil)) ≡ Some n
kept_here true q r true b c n one out = absurd cc
kept_here true q r false b c n one out = refl
kept_here false true r a true c n one out = absurd cc
kept_here false true r a false c n one out = refl
kept_here false false true a b true n one out = absurd cc
kept_here false false true a b false n one out = refl
kept_here false false false a b c n one out = absurd cc

one_of_three : (party : ℕ) → IsParty party → (nat_eq party 1 || (nat_eq party 2 || nat_eq party 3)) ≡ true
one_of_three zero is = absurd (omega (arith, is.0))
one_of_three (suc zero) is = refl
one_of_three (suc (suc zero)) is = refl
one_of_three (suc (suc (suc zero))) is = refl
one_of_three (suc (suc (suc (suc party)))) is = absurd (omega (arith, is.1))

relation_says : (nodes : List Node) (party node : ℕ) (n : Node) (w : Relation) → slice_get nodes node ≡ Some n → n.shape ≡ operators.Relation w → Says nodes party node (withheld_relation node (release_set w))
relation_says nodes party node n w at same =
    let set = release_set w in
    let p = nat_eq party 1 in
    let q = nat_eq party 2 in
    let r = nat_eq party 3 in
    let told = named p q r (has set 1) (has set 2) (has set 3) node in
    record {
      under = λ x is. subst (λ x. IsUnder nodes x node) (sym (told x is).0) itself;
      kept = λ x is. subst (IsUnreleased nodes party) (sym (told x is).0) (record { node = n; at = at; written = w; is = same; kept = (told x is).1 });
      first = λ is_party x under unreleased.
          under_cases {G = IsSomeAnd (withheld_from (withheld_relation node set) party) (λ f. f ≤ x)} nodes x node n at under
          (λ e. let equal : n ≡ unreleased.node = same_node n unreleased.node (sym at ∙ ap (slice_get nodes) (sym e) ∙ unreleased.at) in
          let shapes : operators.Relation w ≡ operators.Relation unreleased.written = sym same ∙ ap (λ (n : Node). n.shape) equal ∙ unreleased.is in
          let written : w ≡ unreleased.written = cc in
          let out = subst (λ w. has (release_set w) party ≡ false) (sym written) unreleased.kept in
          let below : node ≤ x = omega arith in
          subst (λ o. IsSomeAnd o (λ f. f ≤ x)) (sym (kept_here p q r (has set 1) (has set 2) (has set 3) node (one_of_three party is_party) out)) below)
          (λ s member rest. absurd (All-contains (λ (s : ℕ). ⊥) [] s (All-nil (λ (s : ℕ). ⊥)) (subst (λ sh. Contains (sources_of sh) s) same member)));
    }

of_some : {A B : Type 0} {P : A → Type 0} (found : Option A) → IsSomeAnd found P → ((x : A) → P x → B) → B
of_some None some step = absurd some
of_some (Some x) some step = step x some

-- the sources of a graph's node are earlier
sources_earlier : (nodes : List Node) (i : ℕ) (n : Node) (shape : Operator) → FitsSources nodes i n shape → All (λ s. s < i) (sources_of shape)
sources_earlier nodes i n (operators.Relation r) fits = All-nil (λ s. s < i)
sources_earlier nodes i n (operators.Filter f) fits = All-cons (λ s. s < i) f.source [] fits.earlier (All-nil (λ s. s < i))
sources_earlier nodes i n (operators.Select s) fits = All-cons (λ s. s < i) s.source [] fits.earlier (All-nil (λ s. s < i))
sources_earlier nodes i n (operators.Concat c) fits = All-weaker (λ s. IsSource nodes i s (λ columns rows. n.columns ≡ columns)) (λ s. s < i) (λ s source. source.earlier) c.sources fits.columns
sources_earlier nodes i n (operators.Join j) fits =
    All-cons (λ s. s < i) j.left (j.right ∷ []) fits.earlier (All-cons (λ s. s < i) j.right [] (of_some {B = j.right < i} (slice_get nodes j.left) fits.fits (λ n source. source.earlier)) (All-nil (λ s. s < i)))
sources_earlier nodes i n (operators.Group g) fits = All-cons (λ s. s < i) g.source [] fits.earlier (All-nil (λ s. s < i))
sources_earlier nodes i n (operators.Distinct d) fits = All-cons (λ s. s < i) d.source [] fits.earlier (All-nil (λ s. s < i))

node_says : (nodes : List Node) (party node : ℕ) (n : Node) (shape : Operator) (earlier : List Withheld) → slice_get nodes node ≡ Some n → n.shape ≡ shape
    → All (λ s. Says nodes party s (withheld_at earlier s)) (sources_of shape) → Says nodes party node (withheld_node node shape earlier)
node_says nodes party node n (operators.Relation r) earlier at same all = relation_says nodes party node n r at same
node_says nodes party node n (operators.Filter f) earlier at same all = other_says nodes party node n (operators.Filter f) earlier at same (λ r is. cc) all
node_says nodes party node n (operators.Select s) earlier at same all = other_says nodes party node n (operators.Select s) earlier at same (λ r is. cc) all
node_says nodes party node n (operators.Concat c) earlier at same all = other_says nodes party node n (operators.Concat c) earlier at same (λ r is. cc) all
node_says nodes party node n (operators.Join j) earlier at same all = other_says nodes party node n (operators.Join j) earlier at same (λ r is. cc) all
node_says nodes party node n (operators.Group g) earlier at same all = other_says nodes party node n (operators.Group g) earlier at same (λ r is. cc) all
node_says nodes party node n (operators.Distinct d) earlier at same all = other_says nodes party node n (operators.Distinct d) earlier at same (λ r is. cc) all

-- of all nodes so far
abbrev Say : List Node → ℕ → List Withheld → Type 0
Say nodes party earlier = (s : ℕ) → s < length earlier → Says nodes party s (withheld_at earlier s)

one_more : (nodes : List Node) (party : ℕ) (earlier : List Withheld) (w : Withheld) → Say nodes party earlier → Says nodes party (length earlier) w → Say nodes party (earlier ++ w ∷ [])
one_more nodes party earlier w all here s below = elim (cases_lt s (length earlier)) [
  | inl before ↦ subst (Says nodes party s) (sym (get_or_append_left earlier (w ∷ []) nothing_withheld s before)) (all s before)
  | inr behind ↦
      let last : s ≡ length earlier = omega (arith, below, length_push earlier w) in
      subst (λ s. Says nodes party s (withheld_at (earlier ++ w ∷ []) s)) (sym last) (subst (Says nodes party (length earlier)) (sym (get_or_push earlier w nothing_withheld (length earlier) refl)) here)
]

behind_says : (graph : Content) → IsGraph graph → (party : ℕ) (rest : List Node) (earlier : List Withheld) → ((j : ℕ) → slice_get rest j ≡ slice_get graph.nodes (length earlier + j)) → Say graph.nodes party earlier
    → Say graph.nodes party (withheld_behind earlier rest)
behind_says graph fits party [] earlier stand all = all
behind_says graph fits party (n ∷ rest) earlier stand all =
    let i = length earlier in
    let at : slice_get graph.nodes i ≡ Some n = ap (slice_get graph.nodes) (sym (add-zero i)) ∙ sym (stand 0) in
    let before = sources_earlier graph.nodes i n n.shape (fits.nodes i n at).sources in
    let w = withheld_node i n.shape earlier in
    let here = node_says graph.nodes party i n n.shape earlier at refl (All-weaker (λ s. s < i) (λ s. Says graph.nodes party s (withheld_at earlier s)) all (sources_of n.shape) before) in
    behind_says graph fits party rest (earlier ++ w ∷ []) (λ j. stand (suc j) ∙ ap (slice_get graph.nodes) (moved earlier w j)) (one_more graph.nodes party earlier w all here)
  where
    moved : (earlier : List Withheld) (w : Withheld) (j : ℕ) → length earlier + suc j ≡ length (earlier ++ w ∷ []) + j
    moved earlier w j = let more = length_push earlier w in omega (arith, more)

length_behind : (rest : List Node) (earlier : List Withheld) → length (withheld_behind earlier rest) ≡ length earlier + length rest
length_behind [] earlier = omega arith
length_behind (n ∷ rest) earlier =
    let w = withheld_node (length earlier) n.shape earlier in
    let more : length (earlier ++ w ∷ []) ≡ length earlier + 1 = length_push earlier w in
    omega (arith, length_behind rest (earlier ++ w ∷ []), more)

nodes_say : (graph : Content) → IsGraph graph → (party node : ℕ) → node < length graph.nodes → Says graph.nodes party node (withheld_at (withheld_nodes graph.nodes) node)
nodes_say graph fits party node below =
    behind_says graph fits party graph.nodes [] (λ j. ap (slice_get graph.nodes) (sym (zero-add j))) (λ s none. absurd (omega (arith, none))) node (omega (arith, length_behind graph.nodes []))

-- a node for which a relation is named is one
named_within : (nodes : List Node) (party node relation : ℕ) → withheld_from (withheld_at (withheld_nodes nodes) node) party ≡ Some relation → node < length nodes
named_within nodes party node relation is = elim (cases_lt node (length nodes)) [
  | inl below ↦ below
  | inr past ↦
      let long = length_behind nodes [] in
      let none : withheld_at (withheld_nodes nodes) node ≡ nothing_withheld = get_or_past (withheld_nodes nodes) node nothing_withheld (omega (arith, long)) in
      absurd (not_some relation (sym (nothing_from party) ∙ ap (λ w. withheld_from w party) (sym none) ∙ is))
]

under_within : (nodes : List Node) (party node relation : ℕ) → IsUnder nodes relation node → IsUnreleased nodes party relation → node < length nodes
under_within nodes party _ relation itself unreleased = slice_get_within nodes relation unreleased.node unreleased.at
under_within nodes party _ relation (source node s n at member rest) unreleased = slice_get_within nodes node n at

pub withheld_is_first : WithheldIsFirst
withheld_is_first = record {
  under = λ graph fits node party relation is. (nodes_say graph fits party node (named_within graph.nodes party node relation is)).under relation is;
  kept = λ graph fits node party relation is. (nodes_say graph fits party node (named_within graph.nodes party node relation is)).kept relation is;
  first = λ graph fits node party other is_party under unreleased. (nodes_say graph fits party node (under_within graph.nodes party node other under unreleased)).first is_party other under unreleased;
}
