-- Same bags have an order that aligns them, and a seed has tapes.
use Rattle.std.proofs.Common.{◌≡◌, ◌≢◌, ℕ, suc, zero, ◌+◌, ◌<◌, inl, inr, ⊎_elim, Bool, true, false, cond, eqb, List, [], ◌∷◌, length, get_or, take, map, refl, sym, ◌∙◌, ap, subst, arith, true≢false}
use Rattle.std.specs.Cmp.Lexicographic.{bytes_decides, nat_list_cmp_total}
use Rattle.std.specs.List.{All, range_with_len}
use Rattle.std.specs.List.Sorted.{IsPermutation}
use Rattle.std.specs.Ordering.{is_lt, nat_cmp, ordering_then}
use Rattle.std.specs.declared.cmp.Ordering.{Ordering}
use Rattle.std.specs.declared.cmp.Ordering.TheVariants.{Less, Equal, Greater}
use Rattle.std.proofs.lemmas.Cmp.{nat_cmp_total, tied_itself}
use Rattle.std.proofs.lemmas.Bool.{cases_order, lt-ltb}
use Rattle.std.proofs.lemmas.List.{get_or-map, length-map, take_all}
use Rattle.std.proofs.lemmas.List.FromFn.{get_or-map-range_with_len, length-map-range_with_len}
use Rattle.std.proofs.lemmas.List.Sorted.{All-permutation, IsPermutation-map, IsPermutation-sym, length_permutation, ranks_by, sorted_far}
use Rattle.bags.specs.Bag.{SameBag, count_of, row_eq}
use Rattle.bags.specs.Laws.{BagsAreEquivalence, BagsArePermutations, BagsKeepRows, SortedIsInOrder}
use Rattle.bags.specs.Sorted.{row_cmp, sorted}
use Rattle.bags.specs.Words.{WordsOfRows, WordsOfSameMembers}
use Rattle.tapes.specs.declared.draw.Draw.{Draw}
use Rattle.tapes.specs.declared.draw.Draw.TheVariants.{Word, Order}
use Rattle.tapes.specs.declared.draw.Need.{Need}
use Rattle.tapes.specs.declared.draw.Need.TheVariants.{Word as NeedsWord, OrderOf}
use Rattle.tapes.specs.Align.{Aligns, occurrence, row_at, rows_applied}
use Rattle.tapes.specs.Laws.{SameBagsAlign, SeedsHaveTapes}
use Rattle.tapes.specs.Made.{AreMadeFrom, IsSortedByWords, Precedes, key_bytes, key_word}
use Rattle.tapes.specs.Order.{IsOrder, identity_of}
use Rattle.tapes.proofs.Aligning.{aligned_applied, count_more, one_place}
use Rattle.tapes.proofs.OrderedRows.{bag_of_order}
use Rattle.tapes.proofs.OrderLemmas.{length-identity}
use Rattle.tapes.proofs.SortedOrders.{order_from_permutation}

-- ---- the place of an occurrence

-- where a row stands the next time after so many times
abbrev place_with : List ℕ → ℕ → List (List ℕ) → ℕ
place_with r j [] = 0
place_with r zero (x ∷ xs) = cond (row_eq r x) 0 (suc (place_with r zero xs))
place_with r (suc j) (x ∷ xs) = cond (row_eq r x) (suc (place_with r j xs)) (suc (place_with r (suc j) xs))

record IsPlaceOf (r : List ℕ) (j : ℕ) (rows : List (List ℕ)) (p : ℕ) : Type 0 where
  within : p < length rows
  row : row_at rows p ≡ r
  earlier : count_of r (take p rows) ≡ j

there : (r : List ℕ) (j : ℕ) (x : List ℕ) (rows : List (List ℕ)) (i p : ℕ) → cond (row_eq r x) 1 0 ≡ i → IsPlaceOf r j rows p → IsPlaceOf r (i + j) (x ∷ rows) (suc p)
there r j x rows i p e h = record { within = omega (arith, h.within); row = h.row; earlier = omega (arith, h.earlier) }

first_there : (r x : List ℕ) (xs : List (List ℕ)) → 0 < count_of r (x ∷ xs) → (0 < count_of r xs → IsPlaceOf r 0 xs (place_with r zero xs))
    → (b : Bool) → row_eq r x ≡ b → IsPlaceOf r 0 (x ∷ xs) (cond b 0 (suc (place_with r zero xs)))
first_there r x xs h rest true e = record { within = omega arith; row = sym ((bytes_decides r x).0 e); earlier = refl }
first_there r x xs h rest false e =
    let none : cond (row_eq r x) 1 0 ≡ 0 = ap (λ b. cond b 1 0) e in
    let counted = rw e at h in
    there r 0 x xs 0 (place_with r zero xs) none (rest (omega arith))

later_there : (r x : List ℕ) (xs : List (List ℕ)) (j : ℕ) → suc j < count_of r (x ∷ xs) → (j < count_of r xs → IsPlaceOf r j xs (place_with r j xs))
    → (suc j < count_of r xs → IsPlaceOf r (suc j) xs (place_with r (suc j) xs))
    → (b : Bool) → row_eq r x ≡ b → IsPlaceOf r (suc j) (x ∷ xs) (cond b (suc (place_with r j xs)) (suc (place_with r (suc j) xs)))
later_there r x xs j h rest more true e =
    let one : cond (row_eq r x) 1 0 ≡ 1 = ap (λ b. cond b 1 0) e in
    let counted = rw e at h in
    let same : 1 + j ≡ suc j = omega arith in
    subst (λ (n : ℕ). IsPlaceOf r n (x ∷ xs) (suc (place_with r j xs))) same (there r j x xs 1 (place_with r j xs) one (rest (omega arith)))
later_there r x xs j h rest more false e =
    let none : cond (row_eq r x) 1 0 ≡ 0 = ap (λ b. cond b 1 0) e in
    let counted = rw e at h in
    let same : 0 + suc j ≡ suc j = omega arith in
    subst (λ (n : ℕ). IsPlaceOf r n (x ∷ xs) (suc (place_with r (suc j) xs))) same (there r (suc j) x xs 0 (place_with r (suc j) xs) none (more (omega arith)))

place_there : (r : List ℕ) (j : ℕ) (rows : List (List ℕ)) → j < count_of r rows → IsPlaceOf r j rows (place_with r j rows)
place_there r zero [] h = absurd (omega arith)
place_there r (suc j) [] h = absurd (omega arith)
place_there r zero (x ∷ xs) h = first_there r x xs h (place_there r zero xs) (row_eq r x) refl
place_there r (suc j) (x ∷ xs) h = later_there r x xs j h (place_there r j xs) (place_there r (suc j) xs) (row_eq r x) refl

-- ---- same bags are aligned by some order

-- for each place the place in the other list of the same occurrence
abbrev aligning : List (List ℕ) → List (List ℕ) → List ℕ
aligning x y = map (λ k. place_with (row_at y k) (occurrence y k) x) (range_with_len 0 (length y))

module _ (x y : List (List ℕ)) (same : SameBag x y) (lengths : length x ≡ length y) where
  count : length (aligning x y) ≡ length y
  count = length-map-range_with_len (λ k. place_with (row_at y k) (occurrence y k) x) 0 (length y)

  number : (k : ℕ) → k < length y → get_or (aligning x y) k 0 ≡ place_with (row_at y k) (occurrence y k) x
  number k h = get_or-map-range_with_len (λ i. place_with (row_at y i) (occurrence y i) x) 0 (length y) k k 0 h (omega arith)

  place : (k : ℕ) → k < length y → IsPlaceOf (row_at y k) (occurrence y k) x (get_or (aligning x y) k 0)
  place k h =
      let r = row_at y k in
      let all : take (length y) y ≡ y = take_all (length y) y (omega arith) in
      let before : count_of r (take k y) < count_of r (take (length y) y) = count_more r y k (length y) h (omega arith) refl in
      let whole : count_of r (take (length y) y) ≡ count_of r y = ap (count_of r) all in
      rw (number k h) (place_there r (occurrence y k) x (omega (arith, same.counts r)))

  aligning_order : IsOrder (aligning x y)
  aligning_order = record {
    below = λ k h. let within : k < length y = omega (arith, count) in omega (arith, (place k within).within, count, lengths);
    apart = λ i j h g e.
        let a : i < length y = omega (arith, count) in
        let b : j < length y = omega (arith, count) in
        let first = place i a in
        let second = place j b in
        let rows : row_at y i ≡ row_at y j = sym first.row ∙ ap (row_at x) e ∙ second.row in
        one_place y i j a b rows
        (sym first.earlier ∙ ap (λ p. count_of (row_at y i) (take p x)) e ∙ ap (λ r. count_of r (take (get_or (aligning x y) j 0) x)) rows ∙ second.earlier);
  }

  aligning_aligns : Aligns x y (aligning x y)
  aligning_aligns = record {
    order = aligning_order;
    source_long = count ∙ sym lengths;
    target_long = count;
    row = λ k h. sym (place k h).row;
    same_occurrence = λ k h. sym (place k h).earlier ∙ ap (λ r. count_of r (take (get_or (aligning x y) k 0) x)) (sym (place k h).row);
  }

pub same_bags_align : BagsAreEquivalence → BagsKeepRows → WordsOfSameMembers → WordsOfRows → SameBagsAlign
same_bags_align bags keep members words x y = (
  λ same. (aligning x y, aligning_aligns x y same (keep.lengths x y same)),
  λ some.
      let d = some.0 in
      let aligns = some.1 in
      let moved : SameBag (rows_applied d x) x = bag_of_order members words d x aligns.order aligns.source_long in
      bags.back y x (subst (λ (rows : List (List ℕ)). SameBag rows x) (aligned_applied x y d aligns) moved),
)

-- ---- a seed has tapes

-- each number below a count behind its word
abbrev worded_rows : (ℕ → ℕ) → ℕ → List (List ℕ)
worded_rows words n = map (λ i. words i ∷ i ∷ []) (identity_of n)

abbrev number_in : List ℕ → ℕ
number_in row = get_or row 1 0

abbrev order_by : (ℕ → ℕ) → ℕ → List ℕ
order_by words n = map number_in (sorted (worded_rows words n))

numbers_back : (words : ℕ → ℕ) (xs : List ℕ) → map number_in (map (λ i. words i ∷ i ∷ []) xs) ≡ xs
numbers_back words [] = refl
numbers_back words (x ∷ xs) = ap (λ ys. x ∷ ys) (numbers_back words xs)

-- equal words and a lesser number
tied_pairs : (o p : Ordering) → o ≡ Equal → p ≡ Less → is_lt (ordering_then o (ordering_then p Equal)) ≡ false → ⊥
tied_pairs Equal Less e f up = true≢false up
tied_pairs Equal Equal e f up = cc
tied_pairs Equal Greater e f up = cc
tied_pairs Less p e f up = cc
tied_pairs Greater p e f up = cc

-- rows in order come in the order of their words and then of their numbers
precedes : (words : ℕ → ℕ) (a b : ℕ) → is_lt (row_cmp (words b ∷ b ∷ []) (words a ∷ a ∷ [])) ≡ false → a ≢ b → Precedes words a b
precedes words a b up apart =
    ⊎_elim
    (λ (same : words a ≡ words b).
    ⊎_elim (λ e. absurd (apart e)) (⊎_elim (λ (less : a < b). inr (same, less)) (λ (more : b < a). absurd (tied same more up))) (cases_order a b))
    (⊎_elim (λ (less : words a < words b). inl less) (λ (more : words b < words a). absurd (above more up)))
    (cases_order (words a) (words b))
  where
    above : words b < words a → is_lt (row_cmp (words b ∷ b ∷ []) (words a ∷ a ∷ [])) ≡ false → ⊥
    above more up = let less = lt-ltb (words b) (words a) more in true≢false (rw less at up)

    tied : words a ≡ words b → b < a → is_lt (row_cmp (words b ∷ b ∷ []) (words a ∷ a ∷ [])) ≡ false → ⊥
    tied same more up =
        tied_pairs (nat_cmp (words b) (words a)) (nat_cmp b a) (ap (nat_cmp (words b)) same ∙ tied_itself nat_cmp_total (words b))
        (ap (λ t. cond t Less (cond (eqb b a) Equal Greater)) (lt-ltb b a more)) up

module _ (bags : BagsArePermutations) (order : SortedIsInOrder) (words : ℕ → ℕ) (n : ℕ) where
  moved : IsPermutation (worded_rows words n) (sorted (worded_rows words n))
  moved = IsPermutation-sym (sorted (worded_rows words n)) (worded_rows words n) ((bags (sorted (worded_rows words n)) (worded_rows words n)).0 (order.same_bag (worded_rows words n)))

  numbers : IsPermutation (identity_of n) (order_by words n)
  numbers = subst (λ (zs : List ℕ). IsPermutation zs (order_by words n)) (numbers_back words (identity_of n)) (IsPermutation-map number_in (worded_rows words n) (sorted (worded_rows words n)) moved)

  long : length (order_by words n) ≡ n
  long = length_permutation (identity_of n) (order_by words n) numbers ∙ length-identity n

  same_long : length (order_by words n) ≡ length (sorted (worded_rows words n))
  same_long = length-map (sorted (worded_rows words n)) number_in

  rows_are : All (λ (row : List ℕ). row ≡ words (number_in row) ∷ number_in row ∷ []) (sorted (worded_rows words n))
  rows_are = All-permutation (λ (row : List ℕ). row ≡ words (number_in row) ∷ number_in row ∷ []) (worded_rows words n) (sorted (worded_rows words n)) moved
      (λ k d h.
      let within : k < length (identity_of n) = omega (arith, length-map {B = List ℕ} (identity_of n) (λ i. words i ∷ i ∷ [])) in
      subst (λ (row : List ℕ). row ≡ words (number_in row) ∷ number_in row ∷ []) (sym (get_or-map {Y = List ℕ} (λ i. words i ∷ i ∷ []) (identity_of n) k 0 d within)) refl)

  is_order : IsOrder (order_by words n)
  is_order = order_from_permutation n (order_by words n) numbers

  rising : (i j : ℕ) → i < j → j < n → Precedes words (get_or (order_by words n) i 0) (get_or (order_by words n) j 0)
  rising i j h w =
      let rows = sorted (worded_rows words n) in
      let a : i < length rows = omega (arith, same_long, long) in
      let b : j < length rows = omega (arith, same_long, long) in
      let x : get_or (order_by words n) i 0 ≡ number_in (get_or rows i []) = get_or-map number_in rows i [] 0 a in
      let y : get_or (order_by words n) j 0 ≡ number_in (get_or rows j []) = get_or-map number_in rows j [] 0 b in
      let apart : number_in (get_or rows i []) ≢ number_in (get_or rows j [])
      = λ e. absurd (let t : i ≡ j = is_order.apart i j (omega (arith, long)) (omega (arith, long)) (x ∙ e ∙ sym y) in omega arith) in
      let far : is_lt (row_cmp (get_or rows j []) (get_or rows i [])) ≡ false
      = sorted_far (λ p q. is_lt (row_cmp p q)) (ranks_by nat_list_cmp_total (λ p. p)) rows (order.in_order (worded_rows words n)) i j [] (omega arith) b in
      let first : is_lt (row_cmp (words (number_in (get_or rows j [])) ∷ number_in (get_or rows j []) ∷ []) (get_or rows i [])) ≡ false
      = subst (λ (row : List ℕ). is_lt (row_cmp row (get_or rows i [])) ≡ false) (rows_are j [] b) far in
      let both : is_lt (row_cmp (words (number_in (get_or rows j [])) ∷ number_in (get_or rows j []) ∷ []) (words (number_in (get_or rows i [])) ∷ number_in (get_or rows i []) ∷ [])) ≡ false
      = subst (λ (row : List ℕ). is_lt (row_cmp (words (number_in (get_or rows j [])) ∷ number_in (get_or rows j []) ∷ []) row) ≡ false) (rows_are i [] a) first in
      rw (x, y) (precedes words (number_in (get_or rows i [])) (number_in (get_or rows j [])) both apart)

  sorted_numbers : IsSortedByWords words n (order_by words n)
  sorted_numbers = record { long = long; order = is_order; rising = rising }

module _ (bags : BagsArePermutations) (order : SortedIsInOrder) (seed tape : ℕ) where
  draws_made : (d : ℕ) (needs : List Need) → (draws : List Draw) × AreMadeFrom seed tape d needs draws
  draws_made d [] = ([], tt)
  draws_made d (NeedsWord ∷ needs) =
      let rest = draws_made (suc d) needs in
      (Word (key_word (key_bytes seed tape 0) d) ∷ rest.0, (refl, rest.1))
  draws_made d (OrderOf n ∷ needs) =
      let rest = draws_made (suc d) needs in
      let words = λ (i : ℕ). key_word (key_bytes seed tape (d + 1)) i in
      (Order (order_by words n) ∷ rest.0, (sorted_numbers bags order words n, rest.1))

pub seeds_have_tapes : BagsArePermutations → SortedIsInOrder → SeedsHaveTapes
seeds_have_tapes bags order seed tape needs = draws_made bags order seed tape 0 needs
