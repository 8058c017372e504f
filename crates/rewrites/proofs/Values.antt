-- Values of nodes in order: as many as nodes, each from its node and the values before it.
use Rattle.std.proofs.Common.{◌≡◌, ℕ, zero, suc, ◌+◌, ◌<◌, List, [], ◌∷◌, ◌++◌, Some, length, take, get_or, refl, sym, ◌∙◌, ap, subst, arith, add-zero, zero-add}
use Rattle.std.specs.Prelude.{slice_get}
use Rattle.std.specs.List.{All, flat_map}
use Rattle.std.proofs.lemmas.List.{append_assoc, append-nil, get_or_append_left, get_or_push, length-take-le, length_push, take_at}
use Rattle.std.proofs.lemmas.List.Elements.{All-head, All-tail}
use Rattle.std.proofs.lemmas.Option.{same_Some, slice_get_within}
use Rattle.query_graph.specs.declared.node.Node.{Node}
use Rattle.rewrites.specs.Values.{values_behind, values_of}

module _ {X : Type 0} (step : Node → List X → X) where
  -- what comes behind the earlier values
  behind : (nodes : List Node) (earlier : List X) → (rest : List X) × (values_behind step earlier nodes ≡ earlier ++ rest) × (length rest ≡ length nodes)
  behind [] earlier = ([], sym (append-nil earlier), refl)
  behind (n ∷ nodes) earlier =
      let new = step n earlier in
      let more = behind nodes (earlier ++ new ∷ []) in
      (new ∷ more.0, more.1 ∙ append_assoc earlier (new ∷ []) more.0, ap suc more.2)

  from_earlier : (d : X) (nodes : List Node) (earlier : List X) (k : ℕ) (n : Node) → slice_get nodes k ≡ Some n
      → get_or (values_behind step earlier nodes) (length earlier + k) d ≡ step n (take (length earlier + k) (values_behind step earlier nodes))
  from_earlier d [] earlier k n at = absurd cc
  from_earlier d (m ∷ nodes) earlier zero n at =
      let new = step m earlier in
      let more = behind nodes (earlier ++ new ∷ []) in
      let all : List X = values_behind step earlier (m ∷ nodes) in
      let is : all ≡ earlier ++ (new ∷ more.0) = more.1 ∙ append_assoc earlier (new ∷ []) more.0 in
      let here : get_or all (length earlier) d ≡ new = ap (λ l. get_or l (length earlier) d) more.1 ∙ get_or_append_left (earlier ++ new ∷ []) more.0 d (length earlier) (omega (arith, length_push earlier new)) ∙ get_or_push earlier new d (length earlier) refl in
      let front : take (length earlier) all ≡ earlier = ap (take (length earlier)) is ∙ take_at earlier (new ∷ more.0) (length earlier) refl in
      let same : m ≡ n = same_Some m n at in
      let whole : get_or all (length earlier) d ≡ step n (take (length earlier) all) = here ∙ (λ i. step (same i) (sym front i)) in
      subst (λ i. get_or all i d ≡ step n (take i all)) (sym (add-zero (length earlier))) whole
  from_earlier d (m ∷ nodes) earlier (suc k) n at =
      let new = step m earlier in
      let all : List X = values_behind step (earlier ++ new ∷ []) nodes in
      let moved : length (earlier ++ new ∷ []) + k ≡ length earlier + suc k = omega (arith, length_push earlier new) in
      subst (λ i. get_or all i d ≡ step n (take i all)) moved (from_earlier d nodes (earlier ++ new ∷ []) k n at)

  pub values_count : (nodes : List Node) → length (values_of step nodes) ≡ length nodes
  values_count nodes = let all = behind nodes [] in ap length all.1 ∙ all.2

  pub value_here : (d : X) (nodes : List Node) (i : ℕ) (n : Node) → slice_get nodes i ≡ Some n → get_or (values_of step nodes) i d ≡ step n (take i (values_of step nodes))
  value_here d nodes i n at = subst (λ k. get_or (values_of step nodes) k d ≡ step n (take k (values_of step nodes))) (zero-add i) (from_earlier d nodes [] i n at)

  -- as many values stand before a node as its number says
  pub values_before : (nodes : List Node) (i : ℕ) (n : Node) → slice_get nodes i ≡ Some n → length (take i (values_of step nodes)) ≡ i
  values_before nodes i n at =
      let inside = slice_get_within nodes i n at in
      let many = values_count nodes in
      length-take-le i (values_of step nodes) (omega arith)

-- what is made of the values at earlier sources
pub taken_at : {X A : Type 0} (i : ℕ) (values : List X) (f : List X → ℕ → List A) → ((s : ℕ) → s < i → f (take i values) s ≡ f values s) → (sources : List ℕ) → All (λ s. s < i) sources
    → flat_map (f (take i values)) sources ≡ flat_map (f values) sources
taken_at i values f same [] lower = refl
taken_at i values f same (s ∷ sources) lower =
    let here = same s (All-head (λ s. s < i) s sources lower) in
    let rest = taken_at i values f same sources (All-tail (λ s. s < i) s sources lower) in
    λ k. here k ++ rest k
