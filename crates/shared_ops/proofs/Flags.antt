-- Which rows are first with their keys, from the flags of their pairs.
use Rattle.std.proofs.Common.{◌≡◌, ℕ, zero, suc, ◌+◌, ◌-◌, ◌*◌, ◌/◌, ◌%◌, ◌<◌, ◌≤◌, Bool, true, false, ◌&&◌, ◌||◌, cond, not, nat_eq, ltb, List, [], ◌∷◌, bit_and, bit_or, map, length, get_or, refl, sym, ap, ◌∙◌, arith}
use Rattle.std.specs.Prelude.{All}
use Rattle.std.specs.List.{fold, list_any, range_with_len}
use Rattle.std.proofs.lemmas.Bool.{le-ltb, lt-ltb}
use Rattle.std.proofs.lemmas.List.Elements.{All-head, All-tail}
use Rattle.std.proofs.lemmas.List.Folds.{list_any-append}
use Rattle.std.proofs.lemmas.List.FromFn.{get_or-map-range_with_len, length-map-range_with_len}
use Rattle.std.proofs.lemmas.Nat.{and_le_l}
use Rattle.lanes.specs.Folds.{words_folded}
use Rattle.lanes.specs.Items.{LaneItems}
use Rattle.lanes.specs.Lanes.{lanewise1}
use Rattle.lanes.specs.Table.{PlacesOfTable, table_place}
use Rattle.lanes.specs.Word.{word_not}
use Rattle.bags.specs.Bag.{row_eq}
use Rattle.padded.specs.Table.{AreBits, Table, is_live}
use Rattle.plain_operators.specs.Columns.{cut}
use Rattle.plain_operators.specs.Firsts.{is_first}
use Rattle.plain_operators.specs.Operators.{have_equal_keys, left_keys, right_keys}
use Rattle.tapes.specs.RowLaws.{row_across}
use Rattle.shared_ops.specs.Firsts.{keys_across}
use Rattle.shared_ops.specs.Groups.{seen_lanes, seen_word, unseen_valid, with_themselves}
use Rattle.shared_ops.specs.Pairs.{match_words, rows_match}
use Rattle.shared_ops.proofs.Elements.{map_agree, range_below, range_more}

-- ---- the or of flags

one_or : (b c : Bool) → bit_or (cond b 1 0) (cond c 1 0) ≡ cond (b || c) 1 0
one_or true true = refl
one_or true false = refl
one_or false true = refl
one_or false false = refl

or_regrouped : (a b c : Bool) → ((a || b) || c) ≡ (a || (b || c))
or_regrouped true b c = refl
or_regrouped false b c = refl

or_alone : (a : Bool) → a ≡ (a || false)
or_alone true = refl
or_alone false = refl

any_from : {X : Type 0} (b : Bool) (p : X → Bool) (xs : List X) → fold bit_or (cond b 1 0) (map (λ x. cond (p x) 1 0) xs) ≡ cond (b || list_any p xs) 1 0
any_from b p [] = ap (λ a. cond a 1 0) (or_alone b)
any_from b p (x ∷ xs) =
    ap (λ (n : ℕ). fold bit_or n (map (λ y. cond (p y) 1 0) xs)) (one_or b (p x)) ∙ any_from (b || p x) p xs ∙ ap (λ a. cond a 1 0) (or_regrouped b (p x) (list_any p xs))

-- the or of flags is 1 where one of them is
pub any_of_flags : {X : Type 0} (p : X → Bool) (xs : List X) → words_folded bit_or (map (λ x. cond (p x) 1 0) xs) ≡ cond (list_any p xs) 1 0
any_of_flags p [] = refl
any_of_flags p (x ∷ xs) = any_from (p x) p xs

any_agree : {X : Type 0} (p q : X → Bool) (xs : List X) → All (λ x. p x ≡ q x) xs → list_any p xs ≡ list_any q xs
any_agree p q [] all = refl
any_agree p q (x ∷ xs) all = λ i. All-head (λ y. p y ≡ q y) x xs all i || any_agree p q xs (All-tail (λ y. p y ≡ q y) x xs all) i

-- what is asked of numbers below a bound alone
any_below : (p : ℕ → Bool) (k d : ℕ) → list_any (λ j. cond (ltb j k) (p j) false) (range_with_len 0 (k + d)) ≡ list_any p (range_with_len 0 k)
any_below p k zero =
    let all = range_with_len 0 k in
    let same : k + 0 ≡ k = omega arith in
    ap (λ n. list_any (λ j. cond (ltb j k) (p j) false) (range_with_len 0 n)) same
    ∙ any_agree (λ j. cond (ltb j k) (p j) false) p all (λ i e h. ap (λ b. cond b (p (get_or all i e)) false) (lt-ltb (get_or all i e) k (range_below k i e h)))
any_below p k (suc d) =
    let q = λ (j : ℕ). cond (ltb j k) (p j) false in
    let more : k + suc d ≡ (k + d) + 1 = omega arith in
    let last : q (k + d) ≡ false = ap (λ b. cond b (p (k + d)) false) (le-ltb (k + d) k (omega arith)) in
    ap (λ n. list_any q (range_with_len 0 n)) more ∙ ap (list_any q) (range_more (k + d)) ∙ list_any-append q (range_with_len 0 (k + d)) ((k + d) ∷ [])
    ∙ (λ i. any_below p k d i || (last i || false)) ∙ sym (or_alone (list_any p (range_with_len 0 k)))

-- ---- one row

masked_bit : (a : ℕ) (b : Bool) → a ≤ 1 → nat_eq (bit_and a (word_not (cond b 1 0))) 1 ≡ cond (nat_eq a 1) (not b) false
masked_bit zero true small = refl
masked_bit zero false small = refl
masked_bit (suc zero) true small = refl
masked_bit (suc zero) false small = refl
masked_bit (suc (suc a)) b small = absurd (omega arith)

pub lefts_of : (keys : List ℕ) → left_keys (with_themselves keys) ≡ keys
lefts_of [] = refl
lefts_of (key ∷ keys) = ap (λ l. key ∷ l) (lefts_of keys)

pub rights_of : (keys : List ℕ) → right_keys (with_themselves keys) ≡ keys
rights_of [] = refl
rights_of (key ∷ keys) = ap (λ l. key ∷ l) (rights_of keys)

-- pairs of equal columns ask for equal keys
pub same_keys : (keys : List ℕ) (left right : List ℕ) → have_equal_keys (with_themselves keys) left right ≡ row_eq (cut keys left) (cut keys right)
same_keys keys left right = λ i. row_eq (cut (lefts_of keys i) left) (cut (rights_of keys i) right)

-- the flag of a pair
pub flag_at : PlacesOfTable → (keys : List (ℕ × ℕ)) (t : Table) (n j i : ℕ) → j < n → i < n → get_or (match_words keys t t n n) (table_place n j i) 0 ≡ cond (rows_match keys t t j i) 1 0
flag_at places keys t n j i h k =
    get_or-map-range_with_len (λ p. cond (rows_match keys t t (p / n) (p % n)) 1 0) 0 (n * n) (table_place n j i) (table_place n j i) 0 (places.within n n j i h k) (omega arith)
    ∙ (λ s. cond (rows_match keys t t (places.row n j i k s) (places.column n j i k s)) 1 0)

pub seen_is : PlacesOfTable → (keys : List (ℕ × ℕ)) (t : Table) (n i : ℕ) → i < n
    → seen_word n (match_words keys t t n n) i ≡ cond (list_any (λ j. rows_match keys t t j i) (range_with_len 0 i)) 1 0
seen_is places keys t n i h =
    let flags = match_words keys t t n n in
    let all = range_with_len 0 n in
    let before = λ (j : ℕ). cond (ltb j i) (rows_match keys t t j i) false in
    let flag = λ (j : ℕ). cond (ltb j i) (get_or flags (table_place n j i) 0) 0 in
    let rest : i + (n - i) ≡ n = omega arith in
    ap (words_folded bit_or) (map_agree flag (λ j. cond (before j) 1 0) all (λ k d w. one (get_or all k d) (range_below n k d w)))
    ∙ any_of_flags before all
    ∙ ap (λ m. cond (list_any before (range_with_len 0 m)) 1 0) (sym rest)
    ∙ ap (λ b. cond b 1 0) (any_below (λ j. rows_match keys t t j i) i (n - i))
  where
    one : (j : ℕ) → j < n → cond (ltb j i) (get_or (match_words keys t t n n) (table_place n j i) 0) 0 ≡ cond (cond (ltb j i) (rows_match keys t t j i) false) 1 0
    one j w = ap (λ m. cond (ltb j i) m 0) (flag_at places keys t n j i w h) ∙ by (ltb j i) (rows_match keys t t j i)
      where
        by : (b c : Bool) → ◌≡◌ {A = ℕ} (cond b (cond c 1 0) 0) (cond (cond b c false) 1 0)
        by true c = refl
        by false c = refl

-- ---- all rows

module _ (items : LaneItems) (places : PlacesOfTable) (keys : List ℕ) (t : Table) (n : ℕ) (bits : AreBits t.valid) where
  abbrev flags : List ℕ
  flags = match_words (with_themselves keys) t t n n

  abbrev after : List ℕ
  after = unseen_valid n t.valid flags

  -- whether a row before it matches a row
  abbrev came : ℕ → Bool
  came k = list_any (λ j. rows_match (with_themselves keys) t t j k) (range_with_len 0 k)

  unseen_at : (k : ℕ) → k < n → get_or after k 0 ≡ bit_and (get_or t.valid k 0) (word_not (cond (came k) 1 0))
  unseen_at k h =
      let seen = seen_lanes n flags in
      let long : length seen ≡ n = length-map-range_with_len (seen_word n flags) 0 n in
      items.and t.valid (lanewise1 word_not seen) k
      ∙ ap (bit_and (get_or t.valid k 0)) (items.each word_not seen k (omega (arith, long)) ∙ ap word_not (get_or-map-range_with_len (seen_word n flags) 0 n k k 0 h (omega arith) ∙ seen_is places (with_themselves keys) t n k h))

  pub unseen_bits : AreBits after
  unseen_bits = record {
    each = λ k. rw (items.and t.valid (lanewise1 word_not (seen_lanes n flags)) k) (let small : get_or t.valid k 0 ≤ 1 = bits.each k in omega (arith, and_le_l (get_or t.valid k 0) (get_or (lanewise1 word_not (seen_lanes n flags)) k 0)));
  }

  -- a row that matches none before it is the first with its keys
  pub unseen_first : (k : ℕ) → k < n → is_live after k ≡ is_first (is_live t.valid) (keys_across keys t.columns) k
  unseen_first k h = ap (λ word. nat_eq word 1) (unseen_at k h) ∙ masked_bit (get_or t.valid k 0) (came k) (bits.each k) ∙ by (is_live t.valid k) refl
    where
      ask : (a b : Bool) → (a && (true && b)) ≡ cond a b false
      ask true b = refl
      ask false b = refl

      by : (b : Bool) → is_live t.valid k ≡ b → cond b (not (came k)) false ≡ cond b (not (list_any (λ j. cond (is_live t.valid j) (row_eq (keys_across keys t.columns j) (keys_across keys t.columns k)) false) (range_with_len 0 k))) false
      by true is = ap not (any_agree (λ j. rows_match (with_themselves keys) t t j k) (λ j. cond (is_live t.valid j) (row_eq (keys_across keys t.columns j) (keys_across keys t.columns k)) false) (range_with_len 0 k)
          (λ i d w.
          let j = get_or (range_with_len 0 k) i d in
          (λ s. is_live t.valid j && (is s && same_keys keys (row_across t.columns j) (row_across t.columns k) s)) ∙ ask (is_live t.valid j) (row_eq (keys_across keys t.columns j) (keys_across keys t.columns k))))
      by false is = refl
