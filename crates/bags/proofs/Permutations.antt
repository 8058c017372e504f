-- The same bag and std's permutations are one notion; what every element, the length and a sum keep.
use Rattle.std.proofs.Common.{◌≡◌, ℕ, ◌+◌, Bool, cond, List, [], ◌∷◌, ◌++◌, map, length, get_or, refl, sym, ◌∙◌, ap, subst, arith, suc, add-zero, zero-add}
use Rattle.std.specs.List.{All, AllZip, flat_map, range_with_len, sum_by}
use Rattle.std.specs.List.Sorted.{IsPermutation}
use Rattle.std.proofs.lemmas.List.Recursion.{is_sum_by}
use Rattle.std.proofs.lemmas.List.Sorted.{IsPermutation-refl, IsPermutation-sym, IsPermutation-trans, IsPermutation-cons, IsPermutation-middle, IsPermutation-map, sum_by-IsPermutation, length_permutation, All-permutation}
use Rattle.bags.specs.Bag.{occurrences, SameBagBy}
use Rattle.bags.proofs.Bags.{IsEqualityTest, occurrences-append, SameBag-refl, SameBag-sym, SameBag-trans, SameBag-same, SameBag-append, by_bag}

pub SameBag-from_permutation : {X : Type 0} (eq : X → X → Bool) (xs ys : List X) → IsPermutation xs ys → SameBagBy eq xs ys
SameBag-from_permutation {X} eq xs ys h = record { counts = λ x. counted x xs ∙ sym (sum_by-IsPermutation (λ y. cond (eq x y) 1 0) xs ys h) ∙ sym (counted x ys) }
  where
    counted : (x : X) (zs : List X) → occurrences eq x zs ≡ sum_by (λ y. cond (eq x y) 1 0) zs
    counted x zs = is_sum_by (occurrences eq x) (λ y. cond (eq x y) 1 0) refl (λ _ _. refl) zs

-- pieces appended in another order
pub SameBag-flat_map_permutation : {X Y : Type 0} (eqY : Y → Y → Bool) (f : X → List Y) (xs ys : List X) → IsPermutation xs ys → SameBagBy eqY (flat_map f xs) (flat_map f ys)
SameBag-flat_map_permutation {X} {Y} eqY f xs ys h = record { counts = λ y. counted y xs ∙ sym (sum_by-IsPermutation (λ x. occurrences eqY y (f x)) xs ys h) ∙ sym (counted y ys) }
  where
    counted : (y : Y) (zs : List X) → occurrences eqY y (flat_map f zs) ≡ sum_by (λ x. occurrences eqY y (f x)) zs
    counted y zs = is_sum_by (λ l. occurrences eqY y (flat_map f l)) (λ x. occurrences eqY y (f x)) refl (λ x l. occurrences-append eqY y (f x) (flat_map f l)) zs

-- lists that are the same bags, one by one
pub SameBag-concat : {X : Type 0} {eq : X → X → Bool} (xss yss : List (List X)) → AllZip (SameBagBy eq) xss yss → SameBagBy eq (flat_map (λ xs. xs) xss) (flat_map (λ ys. ys) yss)
SameBag-concat [] [] h = SameBag-refl []
SameBag-concat [] (ys ∷ yss) h = absurd h
SameBag-concat (xs ∷ xss) [] h = absurd h
SameBag-concat (xs ∷ xss) (ys ∷ yss) h = SameBag-append h.0 (SameBag-concat xss yss h.1)

-- the elements at the places of a list, each place once and in any order
module _ {X : Type 0} where
  at_places : (F : ℕ → X) (d : X) (xs : List X) (a : ℕ) → ((i : ℕ) → F (a + i) ≡ get_or xs i d) → map F (range_with_len a (length xs)) ≡ xs
  at_places F d [] a h = refl
  at_places F d (x ∷ xs) a h =
      let here : F a ≡ x = subst (λ n. F n ≡ x) (add-zero a) (h 0) in
      let later = at_places F d xs (a + 1) (λ i. subst (λ n. F n ≡ get_or xs i d) (omega arith) (h (suc i))) in
      λ i. here i ∷ later i

  -- the elements at all places in their order are the list
  pub map_places : (d : X) (xs : List X) → map (λ i. get_or xs i d) (range_with_len 0 (length xs)) ≡ xs
  map_places d xs = at_places (λ i. get_or xs i d) d xs 0 (λ i. ap (λ n. get_or xs n d) (zero-add i))

  pub SameBag-picked : (eq : X → X → Bool) (xs : List X) (d : X) (places : List ℕ) → IsPermutation (range_with_len 0 (length xs)) places → SameBagBy eq (map (λ i. get_or xs i d) places) xs
  SameBag-picked eq xs d places h =
      let all = range_with_len 0 (length xs) in
      let moved = SameBag-from_permutation eq (map (λ i. get_or xs i d) all) (map (λ i. get_or xs i d) places) (IsPermutation-map (λ i. get_or xs i d) all places h) in
      SameBag-trans (SameBag-sym moved) (SameBag-same (map_places d xs))

module _ {X : Type 0} {eq : X → X → Bool} (test : IsEqualityTest eq) where
  pub permutation_from-SameBag : (xs ys : List X) → SameBagBy eq xs ys → IsPermutation xs ys
  permutation_from-SameBag = by_bag test IsPermutation (IsPermutation-refl []) step
    where
      step : (x : X) (xs us vs : List X) → IsPermutation xs (us ++ vs) → IsPermutation (x ∷ xs) (us ++ x ∷ vs)
      step x xs us vs h = IsPermutation-trans (x ∷ xs) (x ∷ (us ++ vs)) (us ++ x ∷ vs) (IsPermutation-cons x xs (us ++ vs) h) (IsPermutation-sym (us ++ x ∷ vs) (x ∷ (us ++ vs)) (IsPermutation-middle us x vs))

  pub length-SameBag : {xs ys : List X} → SameBagBy eq xs ys → length xs ≡ length ys
  length-SameBag {xs} {ys} h = sym (length_permutation xs ys (permutation_from-SameBag xs ys h))

  pub sum_by-SameBag : (f : X → ℕ) {xs ys : List X} → SameBagBy eq xs ys → sum_by f xs ≡ sum_by f ys
  sum_by-SameBag f {xs} {ys} h = sym (sum_by-IsPermutation f xs ys (permutation_from-SameBag xs ys h))

  pub All-SameBag : (P : X → Type 0) {xs ys : List X} → SameBagBy eq xs ys → All P xs → All P ys
  All-SameBag P {xs} {ys} h = All-permutation P xs ys (permutation_from-SameBag xs ys h)
