-- Rows as bags: what follows from the definitions, and the laws of bags that lemmas take as premises.
use Rattle.std.proofs.Common.{◌≡◌, ℕ, suc, ◌+◌, Bool, true, false, cond, List, [], ◌∷◌, ◌++◌, map, length, get_or, refl, sym, ◌∙◌, ap, subst, arith, true≢false, add-zero, zero-add}
use Rattle.std.specs.Bool.{Decides}
use Rattle.std.specs.Cmp.Lexicographic.{bytes_decides}
use Rattle.std.specs.List.{filter, flat_map, range_with_len}
use Rattle.bags.specs.Bag.{SameBag, count_of, row_eq}
use Rattle.bags.specs.Laws.{BagsKeepRows, BagsOfFilter, BagsOfFlatMap, BagsOfMap}
use Rattle.bags.specs.Words.{FoldOfWords, WordsOfRows}

-- the laws of bags on which the operators' own stand
pub record BagLaws : Type 0 where
  pub keep : BagsKeepRows
  pub maps : BagsOfMap
  pub filters : BagsOfFilter
  pub flat_maps : BagsOfFlatMap
  pub folds : FoldOfWords
  pub words : WordsOfRows

-- ---- rows are equal or not

pub row_decides : (x y : List ℕ) → Decides (row_eq x y) (x ≡ y)
row_decides = bytes_decides

pub row_itself : (row : List ℕ) → row_eq row row ≡ true
row_itself row = (row_decides row row).1 refl

-- ---- bags

pub same_bag : {xs ys : List (List ℕ)} → xs ≡ ys → SameBag xs ys
same_bag e = record { counts = λ row. ap (count_of row) e }

pub bag_along : {xs ys zs : List (List ℕ)} → SameBag xs ys → SameBag ys zs → SameBag xs zs
bag_along h k = record { counts = λ row. h.counts row ∙ k.counts row }

pub count_of-append : (row : List ℕ) (xs ys : List (List ℕ)) → count_of row (xs ++ ys) ≡ count_of row xs + count_of row ys
count_of-append row [] ys = omega arith
count_of-append row (x ∷ xs) ys = let rest = count_of-append row xs ys in omega arith

-- pieces in two parts
pub bag_of_parts : {X : Type 0} (f g : X → List (List ℕ)) (xs : List X) → SameBag (flat_map (λ x. f x ++ g x) xs) (flat_map f xs ++ flat_map g xs)
bag_of_parts f g [] = same_bag refl
bag_of_parts f g (x ∷ xs) = record {
  counts = λ row.
      let rest = (bag_of_parts f g xs).counts row in
      omega (
        arith,
        count_of-append row (f x ++ g x) (flat_map (λ y. f y ++ g y) xs),
        count_of-append row (f x) (g x),
        count_of-append row (flat_map f xs) (flat_map g xs),
        count_of-append row (f x ++ flat_map f xs) (g x ++ flat_map g xs),
        count_of-append row (f x) (flat_map f xs),
        count_of-append row (g x) (flat_map g xs),
      );
}

-- how often a row that passes occurs among those that pass
pub count_of-filter : (p : List ℕ → Bool) (row : List ℕ) (xs : List (List ℕ)) → count_of row (filter p xs) ≡ cond (p row) (count_of row xs) 0
count_of-filter p row [] = none (p row)
  where
    none : (b : Bool) → ◌≡◌ {A = ℕ} 0 (cond b 0 0)
    none true = refl
    none false = refl
count_of-filter p row (x ∷ xs) = by (p x) refl (row_eq row x) refl (p row) refl (count_of-filter p row xs)
  where
    by : (b : Bool) → p x ≡ b → (c : Bool) → row_eq row x ≡ c → (d : Bool) → p row ≡ d → count_of row (filter p xs) ≡ cond d (count_of row xs) 0
        → count_of row (cond b (x ∷ filter p xs) (filter p xs)) ≡ cond d (cond c 1 0 + count_of row xs) 0
    by true e true f true g rest = rw (f, rest) refl
    by true e true f false g rest = absurd (true≢false (sym e ∙ sym (ap p ((row_decides row x).0 f)) ∙ g))
    by true e false f true g rest = rw (f, rest) refl
    by true e false f false g rest = rw (f, rest) refl
    by false e true f true g rest = absurd (true≢false (sym g ∙ ap p ((row_decides row x).0 f) ∙ e))
    by false e true f false g rest = rest
    by false e false f true g rest = rest ∙ sym (zero-add (count_of row xs))
    by false e false f false g rest = rest

-- ---- the elements at all places of a list, in their order, are the list

at_places : {X : Type 0} (F : ℕ → X) (d : X) (xs : List X) (a : ℕ) → ((i : ℕ) → F (a + i) ≡ get_or xs i d) → map F (range_with_len a (length xs)) ≡ xs
at_places F d [] a h = refl
at_places F d (x ∷ xs) a h =
    let here : F a ≡ x = subst (λ n. F n ≡ x) (add-zero a) (h 0) in
    let later = at_places F d xs (a + 1) (λ i. subst (λ n. F n ≡ get_or xs i d) (omega arith) (h (suc i))) in
    λ i. here i ∷ later i

pub map_places : {X : Type 0} (d : X) (xs : List X) → map (λ i. get_or xs i d) (range_with_len 0 (length xs)) ≡ xs
map_places d xs = at_places (λ i. get_or xs i d) d xs 0 (λ i. ap (λ n. get_or xs n d) (zero-add i))
