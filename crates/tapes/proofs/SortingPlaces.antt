-- What sorting rows with their places gives.
use Rattle.std.proofs.Common.{◌≡◌, ℕ, suc, zero, ◌+◌, ◌<◌, false, ◌&&◌, ltb, List, [], ◌∷◌, ◌++◌, length, get_or, map, take, refl, sym, ◌∙◌, ap, subst, arith, add-one}
use Rattle.std.specs.List.{All, range_with_len}
use Rattle.std.specs.List.Sorted.{IsPermutation, IsSorted, IsSortedByKey}
use Rattle.std.specs.declared.cmp.Ordering.{Ordering}
use Rattle.std.specs.declared.cmp.Ordering.TheVariants.{Less, Equal, Greater}
use Rattle.std.specs.Ordering.{nat_cmp, ordering_then, is_lt}
use Rattle.std.proofs.lemmas.List.{get_or-map, length-map, take-map}
use Rattle.std.proofs.lemmas.List.Sorted.{All-permutation, length_permutation, IsPermutation-map}
use Rattle.bags.specs.Bag.{row_eq, count_of}
use Rattle.bags.specs.Sorted.{row_cmp, sorted}
use Rattle.std.specs.Cmp.Lexicographic.{nat_list_cmp_total}
use Rattle.bags.specs.Laws.{SortedIsUnique}
use Rattle.tapes.specs.Order.{IsOrder, identity_of}
use Rattle.tapes.specs.Align.{row_at, occurrence, rows_applied, Numbered, SortsPlaces}
use Rattle.tapes.proofs.OrderLemmas.{length-identity}
use Rattle.tapes.proofs.Keyed.{keyed_cmp, keyed_rising, KeyedBelow}
use Rattle.tapes.proofs.SortedOrders.{order_from_permutation}
use Rattle.tapes.proofs.Occurrences.{passing, passing-permutation, passing_numbered, passing_sorted}

numbered_places : {X : Type 0} (f : X → List ℕ) (g : X → ℕ) (a : ℕ) (rs : List (List ℕ)) (xs : List X) → Numbered f g a rs xs → map g xs ≡ range_with_len a (length rs)
numbered_places f g a [] [] n = refl
numbered_places f g a [] (x ∷ xs) n = absurd n
numbered_places f g a (r ∷ rs) [] n = absurd n
numbered_places f g a (r ∷ rs) (x ∷ xs) n = rw (n.1, add-one) (ap (λ ys. a ∷ ys) (numbered_places f g (suc a) rs xs n.2))

numbered_rows : {X : Type 0} (f : X → List ℕ) (g : X → ℕ) (a : ℕ) (rs : List (List ℕ)) (xs : List X) → Numbered f g a rs xs → map f xs ≡ rs
numbered_rows f g a [] [] n = refl
numbered_rows f g a [] (x ∷ xs) n = absurd n
numbered_rows f g a (r ∷ rs) [] n = absurd n
numbered_rows f g a (r ∷ rs) (x ∷ xs) n = rw (n.0, numbered_rows f g (suc a) rs xs n.2) refl

-- each item has the row of its place
numbered_items : {X : Type 0} (f : X → List ℕ) (g : X → ℕ) (a : ℕ) (rs : List (List ℕ)) (xs : List X) → Numbered f g a rs xs → (k : ℕ) (d : X) → k < length xs
    → (f (get_or xs k d) ≡ row_at rs k) × (g (get_or xs k d) ≡ a + k)
numbered_items f g a [] [] n k d h = absurd (omega arith)
numbered_items f g a [] (x ∷ xs) n k d h = absurd n
numbered_items f g a (r ∷ rs) [] n k d h = absurd n
numbered_items f g a (r ∷ rs) (x ∷ xs) n zero d h = (n.0, n.1 ∙ omega arith)
numbered_items f g a (r ∷ rs) (x ∷ xs) n (suc k) d h =
    let rest = numbered_items f g (suc a) rs xs n.2 k d (omega arith) in (rest.0, rest.1 ∙ omega arith)

length-numbered : {X : Type 0} (f : X → List ℕ) (g : X → ℕ) (a : ℕ) (rs : List (List ℕ)) (xs : List X) → Numbered f g a rs xs → length xs ≡ length rs
length-numbered f g a [] [] n = refl
length-numbered f g a [] (x ∷ xs) n = absurd n
length-numbered f g a (r ∷ rs) [] n = absurd n
length-numbered f g a (r ∷ rs) (x ∷ xs) n = ap suc (length-numbered f g (suc a) rs xs n.2)

-- one more item
pub numbered_more : {X : Type 0} (f : X → List ℕ) (g : X → ℕ) (a : ℕ) (rs : List (List ℕ)) (xs : List X) (r : List ℕ) (x : X) → Numbered f g a rs xs → f x ≡ r → g x ≡ a + length rs
    → Numbered f g a (rs ++ r ∷ []) (xs ++ x ∷ [])
numbered_more f g a [] [] r x n e p = (e, p ∙ omega arith, tt)
numbered_more f g a [] (y ∷ xs) r x n e p = absurd n
numbered_more f g a (s ∷ rs) [] r x n e p = absurd n
numbered_more f g a (s ∷ rs) (y ∷ xs) r x n e p = (n.0, n.1, numbered_more f g (suc a) rs xs r x n.2 e (p ∙ omega arith))

-- a list in the order of keys and numbers is in the order of keys
first_not_less : (s t : Ordering) → is_lt (ordering_then s t) ≡ false → is_lt s ≡ false
first_not_less Less t h = h
first_not_less Equal t h = refl
first_not_less Greater t h = refl

map_same : {X : Type 0} (p q : X → List ℕ) (ys : List X) → All (λ (y : X). p y ≡ q y) ys → map p ys ≡ map q ys
map_same p q [] h = refl
map_same p q (y ∷ ys) h = rw (h 0 y (omega arith), map_same p q ys (λ k d i. h (suc k) d (omega arith))) refl

map_twice : {X : Type 0} (g : X → ℕ) (p : ℕ → List ℕ) (ys : List X) → map p (map g ys) ≡ map (λ y. p (g y)) ys
map_twice g p [] = refl
map_twice g p (y ∷ ys) = ap (λ zs. p (g y) ∷ zs) (map_twice g p ys)

-- items sorted by their rows have rows in order
sorted_images : {X : Type 0} (f : X → List ℕ) (ys : List X) → IsSortedByKey f row_cmp ys → IsSorted row_cmp (map f ys)
sorted_images f [] up k d low high = absurd (omega arith)
sorted_images f (y ∷ ys) up k d low high =
    let count : length (map f (y ∷ ys)) ≡ length (y ∷ ys) = length-map (y ∷ ys) f in
    let upper : get_or (map f (y ∷ ys)) (k + 1) d ≡ f (get_or (y ∷ ys) (k + 1) y) = get_or-map f (y ∷ ys) (k + 1) y d (omega arith) in
    let lower : get_or (map f (y ∷ ys)) k d ≡ f (get_or (y ∷ ys) k y) = get_or-map f (y ∷ ys) k y d (omega arith) in
    ap (λ row. is_lt (row_cmp row (get_or (map f (y ∷ ys)) k d))) upper ∙ ap (λ row. is_lt (row_cmp (f (get_or (y ∷ ys) (k + 1) y)) row)) lower
    ∙ up k y low (omega arith)

module _ (unique : SortedIsUnique) {X : Type 0} (f : X → List ℕ) (g : X → ℕ) (rs : List (List ℕ)) (xs ys : List X) (n : Numbered f g 0 rs xs) (moved : IsPermutation xs ys)
    (up : IsSorted (keyed_cmp row_cmp f g) ys) where
  places : IsPermutation (identity_of (length rs)) (map g ys)
  places = subst (λ (zs : List ℕ). IsPermutation zs (map g ys)) (numbered_places f g 0 rs xs n) (IsPermutation-map g xs ys moved)

  order : IsOrder (map g ys)
  order = order_from_permutation (length rs) (map g ys) places

  long : length (map g ys) ≡ length rs
  long = length_permutation (identity_of (length rs)) (map g ys) places ∙ length-identity (length rs)

  same_long : length (map g ys) ≡ length ys
  same_long = length-map {B = ℕ} ys g

  rows_are : All (λ (y : X). row_at rs (g y) ≡ f y) ys
  rows_are = All-permutation (λ (y : X). row_at rs (g y) ≡ f y) xs ys moved
      (λ k d h. let item = numbered_items f g 0 rs xs n k d h in
      ap (λ i. row_at rs i) (item.1 ∙ omega arith) ∙ sym item.0)

  applied_is : rows_applied (map g ys) rs ≡ map f ys
  applied_is = map_twice g (λ p. row_at rs p) ys ∙ map_same (λ y. row_at rs (g y)) f ys rows_are

  by_rows : IsSortedByKey f row_cmp ys
  by_rows = λ k d low high. first_not_less (row_cmp (f (get_or ys (k + 1) d)) (f (get_or ys k d))) (nat_cmp (g (get_or ys (k + 1) d)) (g (get_or ys k d))) (up k d low high)

  in_order : rows_applied (map g ys) rs ≡ sorted rs
  in_order = applied_is ∙ unique (map f xs) (map f ys) (IsPermutation-map f xs ys moved) (sorted_images f ys by_rows) ∙ ap sorted (numbered_rows f g 0 rs xs n)

  number_at : (j : ℕ) (d : X) → j < length ys → get_or (map g ys) j 0 ≡ g (get_or ys j d)
  number_at j d h = get_or-map g ys j d 0 h

  below : (i j : ℕ) (d : X) → i < j → j < length ys → KeyedBelow row_cmp f g (get_or ys i d) (get_or ys j d)
  below i j d h w =
      keyed_rising nat_list_cmp_total f g ys up i j d h w
      (λ e. absurd
      (let same : i ≡ j = order.apart i j (omega (arith, same_long)) (omega (arith, same_long))
      (number_at i d (omega arith) ∙ e ∙ sym (number_at j d w)) in omega arith))

  rank : (j : ℕ) (q : X) → j < length ys → get_or ys j q ≡ q → occurrence rs (get_or (map g ys) j 0) ≡ occurrence (rows_applied (map g ys) rs) j
  rank j q h e =
      let number : get_or (map g ys) j 0 ≡ g q = number_at j q h ∙ ap g e in
      let row : row_at rs (g q) ≡ f q = ap (λ y. row_at rs (g y)) (sym e) ∙ rows_are j q h ∙ ap f e in
      let counted : passing (λ y. row_eq (f q) (f y) && ltb (g y) (g q)) xs ≡ count_of (f q) (take (g q) rs)
      = passing_numbered f g (f q) 0 (g q) (g q) rs xs n (omega arith) in
      let swapped : passing (λ y. row_eq (f q) (f y) && ltb (g y) (g q)) xs ≡ passing (λ y. row_eq (f q) (f y) && ltb (g y) (g q)) ys
      = passing-permutation (λ y. row_eq (f q) (f y) && ltb (g y) (g q)) xs ys moved in
      let there : row_at (rows_applied (map g ys) rs) j ≡ f q = ap (λ zs. row_at zs j) applied_is ∙ get_or-map f ys j q [] h ∙ ap f e in
      let front : take j (rows_applied (map g ys) rs) ≡ map f (take j ys) = ap (take j) applied_is ∙ take-map f j ys in
      ap (occurrence rs) number ∙ ap (λ r. count_of r (take (g q) rs)) row ∙ sym counted ∙ swapped ∙ passing_sorted f g ys below j q h e
      ∙ ap (λ r. count_of r (map f (take j ys))) (sym there) ∙ ap (λ zs. count_of (row_at (rows_applied (map g ys) rs) j) zs) (sym front)

  pub sorts_places : SortsPlaces rs (map g ys)
  sorts_places = record {
    order = order;
    long = long;
    in_order = in_order;
    ranks = λ j h. rank_somewhere j (omega (arith, same_long));
  } where
    item_at : (zs : List X) (j : ℕ) → j < length zs → (q : X) × (get_or zs j q ≡ q)
    item_at [] j h = absurd (omega arith)
    item_at (z ∷ zs) zero h = (z, refl)
    item_at (z ∷ zs) (suc j) h = item_at zs j (omega arith)

    rank_somewhere : (j : ℕ) → j < length ys → occurrence rs (get_or (map g ys) j 0) ≡ occurrence (rows_applied (map g ys) rs) j
    rank_somewhere j h = let some = item_at ys j h in rank j some.0 h some.1
