-- Orders that come from sorting.
use Rattle.std.proofs.Common.{◌≡◌, ◌≢◌, ℕ, suc, ◌<◌, ◌≤◌, eqb, List, [], ◌∷◌, zero, length, get_or, map, refl, sym, ◌∙◌, ap, subst, ⊎_elim, ◌⊎◌, inl, inr, arith}
use Rattle.std.specs.declared.cmp.Ordering.TheVariants.{Less, Equal}
use Rattle.std.specs.Ordering.{nat_cmp}
use Rattle.std.specs.List.{All, IsDistinct}
use Rattle.std.specs.List.Sorted.{IsPermutation, IsSorted}
use Rattle.std.proofs.lemmas.Cmp.{nat_cmp_total, ranked}
use Rattle.std.proofs.lemmas.List.{ext_get_or, get_or-map, length-map, get_or_default}
use Rattle.std.proofs.lemmas.List.Sorted.{All-permutation, length_permutation, IsPermutation-map}
use Rattle.std.proofs.lemmas.Map.Keys.{IsDistinct-IsPermutation, IsDistinct-from_apart, apart_from_distinct}
use Rattle.std.proofs.lemmas.Bool.{cases_order, ne_eqb, eqb-false}
use Rattle.tapes.specs.Order.{IsOrder, identity_of, place_of}
use Rattle.tapes.specs.Made.{IsSortedByWords, Precedes, worded}
use Rattle.tapes.proofs.OrderLemmas.{length-identity, get_or-identity, place_of-within, place_of-is}
use Rattle.tapes.proofs.Keyed.{keyed_cmp, keyed_rising}

flips : (x y : ℕ) → eqb x y ≡ eqb y x
flips x y = grind arith

pub identity_distinct : (n : ℕ) → IsDistinct eqb (identity_of n)
identity_distinct n =
    IsDistinct-from_apart eqb (identity_of n)
    (λ i j d h w.
    let a : i < n = omega (arith, length-identity n) in
    let b : j < n = omega (arith, length-identity n) in
    ne_eqb (get_or (identity_of n) i d) (get_or (identity_of n) j d)
    (λ e. absurd
    (let x : get_or (identity_of n) i d ≡ i = get_or_default (identity_of n) i d 0 (omega arith) ∙ get_or-identity n i a in
    let y : get_or (identity_of n) j d ≡ j = get_or_default (identity_of n) j d 0 w ∙ get_or-identity n j b in omega arith)))

identity_below : (n : ℕ) → All (λ (x : ℕ). x < n) (identity_of n)
identity_below n =
    λ k d h.
    let a : k < n = omega (arith, length-identity n) in
    let x : get_or (identity_of n) k d ≡ k = get_or_default (identity_of n) k d 0 h ∙ get_or-identity n k a in omega arith

-- the numbers below a count in another order are an order
pub order_from_permutation : (n : ℕ) (o : List ℕ) → IsPermutation (identity_of n) o → IsOrder o
order_from_permutation n o p =
    let long : length o ≡ n = length_permutation (identity_of n) o p ∙ length-identity n in
    let different = IsDistinct-IsPermutation eqb flips (identity_of n) o p (identity_distinct n) in
    let apart : (i j : ℕ) → i < j → j < length o → get_or o i 0 ≢ get_or o j 0
    = λ i j h w. eqb-false (get_or o i 0) (get_or o j 0) (apart_from_distinct eqb o i j 0 different h w) in
    record {
      below = λ k h.
          let small = All-permutation (λ (x : ℕ). x < n) (identity_of n) o p (identity_below n) in
          let b : get_or o k 0 < n = small k 0 h in omega arith;
      apart = λ i j a b e. ⊎_elim (λ same. same) (⊎_elim (λ lt. absurd (apart i j lt b e)) (λ gt. absurd (apart j i gt a (sym e)))) (cases_order i j);
    }

-- ---- sorting by words

seconds : (words : ℕ → ℕ) (xs : List ℕ) → map (λ (x : ℕ × ℕ). x.1) (map (λ i. (words i, i)) xs) ≡ xs
seconds words [] = refl
seconds words (x ∷ xs) = ap (λ ys. x ∷ ys) (seconds words xs)

-- the numbers of a sorted list are sorted by their words
pub sorted_by_words : (words : ℕ → ℕ) (count : ℕ) (xs ys : List (ℕ × ℕ)) → xs ≡ worded words count → IsPermutation xs ys
    → IsSorted (keyed_cmp nat_cmp (λ (x : ℕ × ℕ). x.0) (λ (x : ℕ × ℕ). x.1)) ys → IsSortedByWords words count (map (λ (x : ℕ × ℕ). x.1) ys)
sorted_by_words words count xs ys e p up =
    let perm : IsPermutation (identity_of count) (map (λ (x : ℕ × ℕ). x.1) ys)
    = subst (λ (zs : List ℕ). IsPermutation zs (map (λ (x : ℕ × ℕ). x.1) ys)) (ap (λ zs. map (λ (x : ℕ × ℕ). x.1) zs) e ∙ seconds words (identity_of count))
    (IsPermutation-map (λ (x : ℕ × ℕ). x.1) xs ys p) in
    let ok : IsOrder (map (λ (x : ℕ × ℕ). x.1) ys) = order_from_permutation count (map (λ (x : ℕ × ℕ). x.1) ys) perm in
    let long : length (map (λ (x : ℕ × ℕ). x.1) ys) ≡ count = length_permutation (identity_of count) (map (λ (x : ℕ × ℕ). x.1) ys) perm ∙ length-identity count in
    let same : length (map (λ (x : ℕ × ℕ). x.1) ys) ≡ length ys = length-map {B = ℕ} ys (λ (x : ℕ × ℕ). x.1) in
    let words_are : All (λ (x : ℕ × ℕ). x.0 ≡ words x.1) ys = All-permutation (λ (x : ℕ × ℕ). x.0 ≡ words x.1) xs ys p (subst (All (λ (x : ℕ × ℕ). x.0 ≡ words x.1)) (sym e) (worded_are words count)) in
    record {
      long = long;
      order = ok;
      rising = λ i j h w.
          let a : i < length ys = omega arith in
          let b : j < length ys = omega arith in
          let x : get_or (map (λ (x : ℕ × ℕ). x.1) ys) i 0 ≡ (get_or ys i (0, 0)).1 = get_or-map (λ (x : ℕ × ℕ). x.1) ys i (0, 0) 0 a in
          let y : get_or (map (λ (x : ℕ × ℕ). x.1) ys) j 0 ≡ (get_or ys j (0, 0)).1 = get_or-map (λ (x : ℕ × ℕ). x.1) ys j (0, 0) 0 b in
          let differ : (get_or ys i (0, 0)).1 ≢ (get_or ys j (0, 0)).1
          = λ s. absurd (let t : i ≡ j = ok.apart i j (omega arith) (omega arith) (x ∙ s ∙ sym y) in omega arith) in
          rw (x, y)
          (precedes_from words (get_or ys i (0, 0)) (get_or ys j (0, 0)) (words_are i (0, 0) a) (words_are j (0, 0) b)
          (keyed_rising nat_cmp_total (λ (x : ℕ × ℕ). x.0) (λ (x : ℕ × ℕ). x.1) ys up i j (0, 0) h b differ));
    }
  where
    worded_are : (words : ℕ → ℕ) (count : ℕ) → All (λ (x : ℕ × ℕ). x.0 ≡ words x.1) (worded words count)
    worded_are words count = λ k d h.
        let a : k < length (identity_of count) = omega (arith, length-map {B = ℕ × ℕ} (identity_of count) (λ i. (words i, i))) in
        subst (λ (x : ℕ × ℕ). x.0 ≡ words x.1) (sym (get_or-map {Y = ℕ × ℕ} (λ i. (words i, i)) (identity_of count) k 0 d a)) refl

    precedes_from : (words : ℕ → ℕ) (x y : ℕ × ℕ) → x.0 ≡ words x.1 → y.0 ≡ words y.1
        → (nat_cmp x.0 y.0 ≡ Less) ⊎ ((nat_cmp x.0 y.0 ≡ Equal) × (x.1 < y.1)) → Precedes words x.1 y.1
    precedes_from words x y p q (inl less) = inl (let h : x.0 < y.0 = ranked x.0 y.0 Less (sym less) in omega arith)
    precedes_from words x y p q (inr tie) = inr (sym p ∙ ranked x.0 y.0 Equal (sym tie.0) ∙ q, tie.1)

-- ---- only one order is sorted by words

one_way : (words : ℕ → ℕ) (a b : ℕ) → Precedes words a b → Precedes words b a → ⊥
one_way words a b (inl x) (inl y) = omega arith
one_way words a b (inl x) (inr y) = omega (arith, y.0)
one_way words a b (inr x) (inl y) = omega (arith, x.0)
one_way words a b (inr x) (inr y) = omega (arith, x.1, y.1)

-- where all earlier numbers agree, so do these
agree_at : (words : ℕ → ℕ) (n : ℕ) (o p : List ℕ) → IsSortedByWords words n o → IsSortedByWords words n p → (i : ℕ) → i < n
    → ((k : ℕ) → k < i → get_or o k 0 ≡ get_or p k 0) → get_or o i 0 ≡ get_or p i 0
agree_at words n o p a b i h earlier =
    let v = get_or o i 0 in
    let w = get_or p i 0 in
    let v-small : v < length p = let s : get_or o i 0 < length o = a.order.below i (omega (arith, a.long)) in omega (arith, a.long, b.long) in
    let w-small : w < length o = let s : get_or p i 0 < length p = b.order.below i (omega (arith, b.long)) in omega (arith, a.long, b.long) in
    let j = place_of v p in
    let k = place_of w o in
    let j-within : j < length p = place_of-within p b.order v v-small in
    let k-within : k < length o = place_of-within o a.order w w-small in
    let j-is : get_or p j 0 ≡ v = place_of-is p b.order v v-small in
    let k-is : get_or o k 0 ≡ w = place_of-is o a.order w w-small in
    ⊎_elim
    (λ same. sym j-is ∙ ap (λ x. get_or p x 0) same)
    (⊎_elim
    (λ before. absurd (let t : j ≡ i = a.order.apart j i (omega (arith, a.long)) (omega (arith, a.long)) (earlier j before ∙ j-is) in omega arith))
    (λ after.
    ⊎_elim
    (λ same. sym (ap (λ x. get_or o x 0) same) ∙ k-is)
    (⊎_elim
    (λ before. absurd (let t : k ≡ i = b.order.apart k i (omega (arith, b.long)) (omega (arith, b.long)) (sym (earlier k before) ∙ k-is) in omega arith))
    (λ later. absurd
    (one_way words v w
    (subst (λ (x : ℕ). Precedes words v x) k-is (a.rising i k later (omega (arith, a.long))))
    (subst (λ (x : ℕ). Precedes words w x) j-is (b.rising i j after (omega (arith, b.long)))))))
    (cases_order k i)))
    (cases_order j i)

agree : (words : ℕ → ℕ) (n : ℕ) (o p : List ℕ) → IsSortedByWords words n o → IsSortedByWords words n p → (m : ℕ) → m ≤ n → (k : ℕ) → k < m → get_or o k 0 ≡ get_or p k 0
agree words n o p a b zero h k l = absurd (omega arith)
agree words n o p a b (suc m) h k l =
    ⊎_elim
    (λ same. subst (λ (x : ℕ). get_or o x 0 ≡ get_or p x 0) (sym same) (agree_at words n o p a b m (omega arith) (agree words n o p a b m (omega arith))))
    (⊎_elim (λ lt. agree words n o p a b m (omega arith) k lt) (λ gt. absurd (omega arith)))
    (cases_order k m)

pub only_sorted : (words : ℕ → ℕ) (n : ℕ) (o p : List ℕ) → IsSortedByWords words n o → IsSortedByWords words n p → o ≡ p
only_sorted words n o p a b =
    ext_get_or 0 o p (a.long ∙ sym b.long) (λ k h. agree words n o p a b n (omega arith) k (omega (arith, a.long)))
