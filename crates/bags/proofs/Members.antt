-- Which elements occur, lists without repeats, and maps that tell all elements apart.
use Rattle.std.proofs.Common.{◌≡◌, ◌+◌, ◌<◌, ◌≤◌, Bool, true, false, cond, List, [], ◌∷◌, map, refl, sym, subst, arith, zero, suc, inl, inr}
use Rattle.std.specs.List.{All, Contains, IsDistinct, AllByRecursion}
use Rattle.std.proofs.lemmas.Bool.{cases_lt}
use Rattle.std.proofs.lemmas.List.Elements.{Contains-append_right, All-head, All-tail}
use Rattle.bags.specs.Bag.{occurrences, SameBagBy}
use Rattle.bags.proofs.Bags.{IsEqualityTest, occurrences_here, split_at, SameBag-map}

-- no element occurs twice
abbrev pub HasNoRepeats : {X : Type 0} → (X → X → Bool) → List X → Type 0
HasNoRepeats {X} eq xs = (x : X) → occurrences eq x xs ≤ 1

module _ {X : Type 0} {eq : X → X → Bool} (test : IsEqualityTest eq) where
  pub occurs-from_Contains : (x : X) (xs : List X) → Contains xs x → 0 < occurrences eq x xs
  occurs-from_Contains x [] h = absurd (omega (arith, h.1))
  occurs-from_Contains x (y ∷ ys) (zero, below, e) = subst (λ z. 0 < occurrences eq x (z ∷ ys)) (sym e) (occurrences_here test x ys)
  occurs-from_Contains x (y ∷ ys) (suc k, below, e) = let later = occurs-from_Contains x ys (k, omega arith, e) in omega arith

  pub Contains-from_occurs : (x : X) (xs : List X) → 0 < occurrences eq x xs → Contains xs x
  Contains-from_occurs x xs h =
      let there = split_at test x xs h in
      let first : Contains (x ∷ there.after) x = (0, omega arith, refl) in
      subst (λ l. Contains l x) (sym there.is) (Contains-append_right there.before (x ∷ there.after) x first)

  pub same_members_bag : (xs ys : List X) → HasNoRepeats eq xs → HasNoRepeats eq ys → ((x : X) → Contains xs x → Contains ys x) → ((x : X) → Contains ys x → Contains xs x) → SameBagBy eq xs ys
  same_members_bag xs ys once_x once_y to from = record { counts = counts }
    where
      counts : (x : X) → occurrences eq x xs ≡ occurrences eq x ys
      counts x =
          let there : 0 < occurrences eq x xs → 0 < occurrences eq x ys = λ h. occurs-from_Contains x ys (to x (Contains-from_occurs x xs h)) in
          let back : 0 < occurrences eq x ys → 0 < occurrences eq x xs = λ h. occurs-from_Contains x xs (from x (Contains-from_occurs x ys h)) in
          let few = once_x x in
          let few_too = once_y x in
          elim (cases_lt 0 (occurrences eq x xs)) [ inl some ↦ (let some_too = there some in omega arith) | inr none ↦ elim (cases_lt 0 (occurrences eq x ys)) [ inl some ↦ (let some_too = back some in omega arith) | inr none_too ↦ omega arith ] ]

  -- x doesn't occur where the test fails at each element
  pub occurs_nowhere : (x : X) (xs : List X) → AllByRecursion (λ y. eq x y ≡ false) xs → occurrences eq x xs ≡ 0
  occurs_nowhere x [] h = refl
  occurs_nowhere x (y ∷ ys) h = rw h.0 (let rest = occurs_nowhere x ys h.1 in omega arith)

  pub HasNoRepeats-from_distinct : (xs : List X) → IsDistinct eq xs → HasNoRepeats eq xs
  unfolding IsDistinct
  HasNoRepeats-from_distinct [] h x = omega arith
  HasNoRepeats-from_distinct (y ∷ ys) h x = by (HasNoRepeats-from_distinct ys h.1 x) (eq x y) refl
    where
      by : occurrences eq x ys ≤ 1 → (b : Bool) → eq x y ≡ b → cond b 1 0 + occurrences eq x ys ≤ 1
      by rest true e =
          let none : occurrences eq x ys ≡ 0 = subst (λ z. occurrences eq z ys ≡ 0) (sym ((test.decides x y).0 e)) (occurs_nowhere y ys h.0) in
          omega arith
      by rest false e = omega arith

-- a map with a left inverse on both lists tells their bags apart
module _ {X Y : Type 0} where
  undone : (f : X → Y) (g : Y → X) (xs : List X) → All (λ x. g (f x) ≡ x) xs → map g (map f xs) ≡ xs
  undone f g [] h = refl
  undone f g (x ∷ xs) h = λ i. All-head (λ z. g (f z) ≡ z) x xs h i ∷ undone f g xs (All-tail (λ z. g (f z) ≡ z) x xs h) i

  pub map_injective_bag : {eq : X → X → Bool} {eqY : Y → Y → Bool} → IsEqualityTest eqY → (f : X → Y) (g : Y → X) (xs ys : List X) → All (λ x. g (f x) ≡ x) xs → All (λ x. g (f x) ≡ x) ys → SameBagBy eqY (map f xs) (map f ys) → SameBagBy eq xs ys
  map_injective_bag {eq} test f g xs ys left right h =
      let back : SameBagBy eq (map g (map f xs)) (map g (map f ys)) = SameBag-map test g h in
      subst (λ l. SameBagBy eq l ys) (undone f g xs left) (subst (SameBagBy eq (map g (map f xs))) (undone f g ys right) back)
