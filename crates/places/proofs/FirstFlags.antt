-- Flags in their order: the first that is broken, and up to which node they are looked at.
use Rattle.std.proofs.Common.{◌≡◌, ℕ, zero, suc, ◌+◌, ◌<◌, ◌≤◌, Bool, true, false, cond, List, [], ◌∷◌, ◌++◌, Option, Some, None, length, refl, sym, ◌∙◌, ap, subst, arith, inl, inr, ◌⊎◌}
use Rattle.std.specs.Prelude.{slice_get, find}
use Rattle.std.specs.List.{list_any}
use Rattle.std.proofs.lemmas.Option.{none-some, same_Some, slice_get_within}
use Rattle.query_graph.specs.declared.flag.Flag.{Flag}
use Rattle.query_graph.specs.declared.node.Node.{Node}
use Rattle.query_graph.specs.Observers.{at_most_of, parts_at_most_of}
use Rattle.trust_sets.specs.declared.known.Known.{Known}
use Rattle.rewrites.specs.declared.part.Part.{Part}
use Rattle.rewrites.specs.Opened.{source_of}
use Rattle.rewrites.specs.Parts.{is_clear_at, parts_at}
use Rattle.rewrites.specs.Rewritten.{Rewritten}
use Rattle.places.specs.Bounds.{counter, flags_from, node_flags, parts_flag, parts_flag_of, parts_flags, rows_flag, rows_flags}
use Rattle.places.specs.Place.{node_place}

-- ---- the first element that does

pub none_found : {X : Type 0} (p : X → Bool) (xs : List X) → ((k : ℕ) (x : X) → slice_get xs k ≡ Some x → p x ≡ false) → find p xs ≡ None
none_found p [] fails = refl
none_found p (x ∷ xs) fails = ap (λ b. cond b (Some x) (find p xs)) (fails zero x refl) ∙ none_found p xs (λ k y at. fails (suc k) y at)

pub first_found : {X : Type 0} (p : X → Bool) (xs : List X) (i : ℕ) (x : X) → slice_get xs i ≡ Some x → p x ≡ true → ((k : ℕ) (y : X) → k < i → slice_get xs k ≡ Some y → p y ≡ false) → find p xs ≡ Some x
first_found p [] i x at holds fails = absurd (none-some x at)
first_found p (y ∷ xs) zero x at holds fails = let same : y ≡ x = same_Some y x at in ap (λ b. cond b (Some y) (find p xs)) (ap p same ∙ holds) ∙ ap Some same
first_found p (y ∷ xs) (suc i) x at holds fails = ap (λ b. cond b (Some y) (find p xs)) (fails zero y (omega arith) refl) ∙ first_found p xs i x at holds (λ k z below got. fails (suc k) z (omega arith) got)

passed : {X : Type 0} (here : Bool) (x : X) (rest : Option X) → cond here (Some x) rest ≡ None → (here ≡ false) × (rest ≡ None)
passed true x rest none = absurd (none-some x (sym none))
passed false x rest none = (refl, none)

pub none_left : {X : Type 0} (p : X → Bool) (xs : List X) → find p xs ≡ None → (k : ℕ) (x : X) → slice_get xs k ≡ Some x → p x ≡ false
none_left p [] none k x at = absurd (none-some x at)
none_left p (y ∷ xs) none zero x at = ap p (sym (same_Some y x at)) ∙ (passed (p y) y (find p xs) none).0
none_left p (y ∷ xs) none (suc k) x at = none_left p xs (passed (p y) y (find p xs) none).1 k x at

-- ---- elements by their places, in two lists one behind the other

pub got_append : {X : Type 0} (xs ys : List X) (i : ℕ) (x : X) → slice_get (xs ++ ys) i ≡ Some x → (slice_get xs i ≡ Some x) ⊎ ((j : ℕ) × (i ≡ length xs + j) × (slice_get ys j ≡ Some x))
got_append [] ys i x at = inr (i, omega arith, at)
got_append (y ∷ xs) ys zero x at = inl at
got_append (y ∷ xs) ys (suc i) x at = elim (got_append xs ys i x at) [ inl here ↦ inl here | inr rest ↦ let is = rest.1 in inr (rest.0, omega (arith, is), rest.2) ]

pub got_behind : {X : Type 0} (xs ys : List X) (j i : ℕ) → i ≡ length xs + j → slice_get (xs ++ ys) i ≡ slice_get ys j
got_behind [] ys j i is = let e : i ≡ j = omega (arith, is) in ap (λ k. slice_get ys k) e
got_behind (x ∷ xs) ys j zero is = absurd (omega (arith, is))
got_behind (x ∷ xs) ys j (suc i) is = got_behind xs ys j i (omega (arith, is))

pub got_before : {X : Type 0} (xs ys : List X) (i : ℕ) (x : X) → slice_get xs i ≡ Some x → slice_get (xs ++ ys) i ≡ Some x
got_before [] ys i x at = absurd (none-some x at)
got_before (y ∷ xs) ys zero x at = at
got_before (y ∷ xs) ys (suc i) x at = got_before xs ys i x at

-- what holds of each element that is there
abbrev Got : {X : Type 0} → (X → Type 0) → List X → Type 0
Got {X} P xs = (i : ℕ) (x : X) → slice_get xs i ≡ Some x → P x

got_nil : {X : Type 0} (P : X → Type 0) → Got P []
got_nil P i x at = absurd (none-some x at)

got_one : {X : Type 0} (P : X → Type 0) (y : X) → P y → Got P (y ∷ [])
got_one P y is zero x at = subst P (same_Some y x at) is
got_one P y is (suc i) x at = absurd (none-some x at)

got_both : {X : Type 0} (P : X → Type 0) (xs ys : List X) → Got P xs → Got P ys → Got P (xs ++ ys)
got_both P xs ys first second i x at = elim (got_append xs ys i x at) [ inl here ↦ first i x here | inr rest ↦ second rest.0 x rest.2 ]

-- ---- the flags of a node

abbrev OfNode : ℕ → Flag → Type 0
OfNode number flag = flag.node ≡ number

of_party : (number party : ℕ) (has : Bool) → Got (OfNode number) (cond has (parts_flag number party ∷ []) [])
of_party number party true = got_one (OfNode number) (parts_flag number party) refl
of_party number party false = got_nil (OfNode number)

of_parts : (number : ℕ) (bound : Option ℕ) (source : List Part) → Got (OfNode number) (parts_flags number bound source)
of_parts number None source = got_nil (OfNode number)
of_parts number (Some bound) source =
    let each = λ (party : ℕ). of_party number party (list_any (λ part. is_clear_at party part) source) in
    let flags = λ (party : ℕ). parts_flag_of number source party in
    got_both (OfNode number) (flags 1) (flags 2 ++ flags 3) (each 1) (got_both (OfNode number) (flags 2) (flags 3) (each 2) (each 3))

of_rows : (number : ℕ) (bound party : Option ℕ) → Got (OfNode number) (rows_flags number bound party)
of_rows number None party = got_nil (OfNode number)
of_rows number (Some bound) None = got_nil (OfNode number)
of_rows number (Some bound) (Some party) = got_one (OfNode number) (rows_flag number party) refl

module _ (known : List Known) (rewritten : Rewritten) where
  abbrev here : ℕ → Node → List Flag
  here number n = node_flags number n.shape (node_place known rewritten number n.shape) (parts_at rewritten.parts (source_of n.shape))

  of_here : (number : ℕ) (n : Node) → Got (OfNode number) (here number n)
  of_here number n =
      let place = node_place known rewritten number n.shape in
      let source = parts_at rewritten.parts (source_of n.shape) in
      got_both (OfNode number) (parts_flags number (parts_at_most_of n.shape) source) (rows_flags number (at_most_of n.shape) (counter place))
      (of_parts number (parts_at_most_of n.shape) source) (of_rows number (at_most_of n.shape) (counter place))

  -- each flag is one of these nodes'
  pub flags_within : (first : ℕ) (nodes : List Node) (i : ℕ) (flag : Flag) → slice_get (flags_from known rewritten first nodes) i ≡ Some flag → flag.node < first + length nodes
  flags_within first [] i flag at = absurd (none-some flag at)
  flags_within first (n ∷ nodes) i flag at = elim (got_append (here first n) (flags_from known rewritten (first + 1) nodes) i flag at) [
    | inl one ↦ let is = of_here first n i flag one in omega (arith, is)
    | inr rest ↦ let less = flags_within (first + 1) nodes rest.0 flag rest.2 in omega (arith, less)
  ]

  -- the flag of the rows of a node whose bound a party counts is among its own
  rows_flag_here : (number bound party : ℕ) (n : Node) → at_most_of n.shape ≡ Some bound → counter (node_place known rewritten number n.shape) ≡ Some party
      → (j : ℕ) × (slice_get (here number n) j ≡ Some (rows_flag number party))
  rows_flag_here number bound party n bounded counted =
      let parts = parts_flags number (parts_at_most_of n.shape) (parts_at rewritten.parts (source_of n.shape)) in
      let one = ap (λ b. rows_flags number b (counter (node_place known rewritten number n.shape))) bounded ∙ ap (λ p. rows_flags number (Some bound) p) counted in
      let j = length parts + 0 in
      (j, (got_behind parts (rows_flags number (at_most_of n.shape) (counter (node_place known rewritten number n.shape))) 0 j refl ∙ ap (λ l. slice_get l 0) one))

  -- a flag of a later node stands behind the flag of this node's rows
  pub flags_rise : (first : ℕ) (nodes : List Node) (k bound party : ℕ) (n : Node) → slice_get nodes k ≡ Some n → at_most_of n.shape ≡ Some bound → counter (node_place known rewritten (first + k) n.shape) ≡ Some party
      → (i : ℕ) (flag : Flag) → slice_get (flags_from known rewritten first nodes) i ≡ Some flag
      → (flag.node ≤ first + k) ⊎ ((j : ℕ) × (j < i) × (slice_get (flags_from known rewritten first nodes) j ≡ Some (rows_flag (first + k) party)))
  flags_rise first [] k bound party n is bounded counted i flag at = absurd (none-some n is)
  flags_rise first (m ∷ nodes) zero bound party n is bounded counted i flag at =
      let rest = flags_from known rewritten (first + 1) nodes in
      let same : m ≡ n = same_Some m n is in
      let now : first + 0 ≡ first = omega arith in
      let mine = rows_flag_here (first + 0) bound party n bounded counted in
      let mine' : (j : ℕ) × (slice_get (here first m) j ≡ Some (rows_flag (first + 0) party)) = (mine.0, ap (λ l. slice_get l mine.0) (λ k. here (sym now k) (same k)) ∙ mine.1) in
      elim (got_append (here first m) rest i flag at) [
        | inl one ↦ let of = of_here first m i flag one in inl (omega (arith, of))
        | inr later ↦ let few = slice_get_within (here first m) mine'.0 (rows_flag (first + 0) party) mine'.1 in let is = later.1 in
            inr (mine'.0, omega (arith, few, is), got_before (here first m) rest mine'.0 (rows_flag (first + 0) party) mine'.1)
      ]
  flags_rise first (m ∷ nodes) (suc k) bound party n is bounded counted i flag at =
      let rest = flags_from known rewritten (first + 1) nodes in
      let next : first + suc k ≡ (first + 1) + k = omega arith in
      let counted' = subst (λ (q : ℕ). counter (node_place known rewritten q n.shape) ≡ Some party) next counted in
      elim (got_append (here first m) rest i flag at) [
        | inl one ↦ let of = of_here first m i flag one in inl (omega (arith, of))
        | inr later ↦ elim (flags_rise (first + 1) nodes k bound party n is bounded counted' later.0 flag later.2) [
          | inl low ↦ inl (omega (arith, low))
          | inr before ↦ let lower = before.1 in let is' = later.1 in
              inr (length (here first m) + before.0, omega (arith, lower, is'), got_behind (here first m) rest before.0 (length (here first m) + before.0) refl ∙ before.2 ∙ ap (λ q. Some (rows_flag q party)) (sym next))
        ]
      ]

  -- and it is there
  pub flag_in : (first : ℕ) (nodes : List Node) (k bound party : ℕ) (n : Node) → slice_get nodes k ≡ Some n → at_most_of n.shape ≡ Some bound → counter (node_place known rewritten (first + k) n.shape) ≡ Some party
      → (j : ℕ) × (slice_get (flags_from known rewritten first nodes) j ≡ Some (rows_flag (first + k) party))
  flag_in first [] k bound party n is bounded counted = absurd (none-some n is)
  flag_in first (m ∷ nodes) zero bound party n is bounded counted =
      let same : m ≡ n = same_Some m n is in
      let now : first + 0 ≡ first = omega arith in
      let mine = rows_flag_here (first + 0) bound party n bounded counted in
      (mine.0, got_before (here first m) (flags_from known rewritten (first + 1) nodes) mine.0 (rows_flag (first + 0) party) (ap (λ l. slice_get l mine.0) (λ k. here (sym now k) (same k)) ∙ mine.1))
  flag_in first (m ∷ nodes) (suc k) bound party n is bounded counted =
      let rest = flags_from known rewritten (first + 1) nodes in
      let next : first + suc k ≡ (first + 1) + k = omega arith in
      let later = flag_in (first + 1) nodes k bound party n is bounded (subst (λ (q : ℕ). counter (node_place known rewritten q n.shape) ≡ Some party) next counted) in
      (length (here first m) + later.0, got_behind (here first m) rest later.0 (length (here first m) + later.0) refl ∙ later.1 ∙ ap (λ q. Some (rows_flag q party)) (sym next))
