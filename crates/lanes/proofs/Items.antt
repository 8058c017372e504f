-- Lengths of lane-wise lists, their words, and lists of words.
use Rattle.std.proofs.Common.{◌≡◌, ℕ, ◌+◌, ◌-◌, ◌*◌, ◌^◌, ◌<◌, ◌≤◌, List, ◌++◌, length, get_or, ⊎_elim, ◌∙◌, subst, arith}
use Rattle.std.specs.Prelude.{bit_and}
use Rattle.std.proofs.lemmas.Bool.{cases_lt}
use Rattle.std.proofs.lemmas.List.{get_or-map, get_or_append_left, get_or-append-add, length-map}
use Rattle.std.proofs.lemmas.Nat.{mod_below, shr_le}
use Rattle.lanes.specs.Items.{LaneItems, LaneLengths, WordsOfParts, WordsStay}
use Rattle.lanes.specs.Lanes.{lanewise, lanewise1}
use Rattle.lanes.specs.Shifts.{shifted_left, shifted_right, spread_word}
use Rattle.lanes.specs.Word.{AreWords}
use Rattle.lanes.proofs.LaneLemmas.{get_or-ands, get_or-lanewise, get_or-picked, get_or-xors, length-ands, length-lanewise, length-picked, length-xors}
use Rattle.lanes.proofs.SharedAnd.{get_or-crosses, length-crosses}
use Rattle.lanes.proofs.WordLemmas.{and_lt}
use Rattle.lanes.proofs.WordsKept.{words_from, words_of_ands, words_of_nots, words_of_picked, words_of_xors}

pub lane_lengths : LaneLengths
lane_lengths = record {
  xor = length-xors;
  and = length-ands;
  lane = length-lanewise;
  each = λ f xs. length-map xs f;
  pick = length-picked;
  cross = λ xs xs' ys ys' a b c. length-crosses xs xs' ys ys' ∙ omega arith;
}

pub lane_items : LaneItems
lane_items = record {
  xor = get_or-xors;
  and = get_or-ands;
  lane = get_or-lanewise;
  each = λ f xs k h. get_or-map f xs k 0 0 h;
  pick = get_or-picked;
  cross = get_or-crosses;
}

-- a function of words, in each lane
words_of_each : (f : ℕ → ℕ) → ((x : ℕ) → x < 2 ^ 64 → f x < 2 ^ 64) → (xs : List ℕ) → AreWords xs → AreWords (lanewise1 f xs)
words_of_each f h xs a =
    words_from (lanewise1 f xs) (λ k w. let within : k < length xs = omega (arith, length-map xs f) in rw (get_or-map f xs k 0 0 within) (h (get_or xs k 0) (a.below k)))

-- a function that gives words for all numbers
words_of_any : (f : ℕ → ℕ) → ((x : ℕ) → f x < 2 ^ 64) → (xs : List ℕ) → AreWords (lanewise1 f xs)
words_of_any f h xs =
    words_from (lanewise1 f xs) (λ k w. let within : k < length xs = omega (arith, length-map xs f) in rw (get_or-map f xs k 0 0 within) (h (get_or xs k 0)))

words_of_lane : (f : ℕ → ℕ → ℕ) → ((x y : ℕ) → x < 2 ^ 64 → y < 2 ^ 64 → f x y < 2 ^ 64) → (xs ys : List ℕ) → AreWords xs → AreWords ys → AreWords (lanewise f xs ys)
words_of_lane f h xs ys a b =
    words_from (lanewise f xs ys)
    (λ k w.
    let first : k < length xs = omega (arith, length-lanewise f xs ys) in
    let second : k < length ys = omega (arith, length-lanewise f xs ys) in
    rw (get_or-lanewise f xs ys k first second) (h (get_or xs k 0) (get_or ys k 0) (a.below k) (b.below k)))

spread_below : (x : ℕ) → spread_word x < 2 ^ 64
spread_below x = omega arith

pub words_stay : WordsStay
words_stay = record {
  xor = words_of_xors;
  and = words_of_ands;
  cross = λ xs xs' ys ys' a b. words_of_xors _ _ (words_of_xors _ _ (words_of_ands xs ys a) (words_of_ands xs ys' a)) (words_of_ands xs' ys b);
  not = words_of_nots;
  left = λ by. words_of_any (shifted_left by) (λ x. mod_below (x * 2 ^ by) (2 ^ 64) (omega arith));
  right = λ by. words_of_each (shifted_right by) (λ x h. omega (arith, shr_le x by));
  mask = λ word. words_of_each (λ x. bit_and x word) (λ x h. and_lt 64 x word h);
  spread = words_of_any spread_word spread_below;
  pick = words_of_picked;
  lane = words_of_lane;
  each = words_of_each;
}

words_first : (xs ys : List ℕ) → AreWords (xs ++ ys) → AreWords xs
words_first xs ys a = words_from xs (λ k h. subst (λ (n : ℕ). n < 2 ^ 64) (get_or_append_left xs ys 0 k h) (a.below k))

words_behind : (xs ys : List ℕ) → AreWords (xs ++ ys) → AreWords ys
words_behind xs ys a = words_from ys (λ k h. subst (λ (n : ℕ). n < 2 ^ 64) (get_or-append-add xs ys k 0) (a.below (length xs + k)))

words_appended : (xs ys : List ℕ) → AreWords xs → AreWords ys → AreWords (xs ++ ys)
words_appended xs ys a b = record {
  below = λ k. ⊎_elim
      (λ (h : k < length xs). rw (get_or_append_left xs ys 0 k h) (a.below k))
      (λ (h : length xs ≤ k).
      let place : length xs + (k - length xs) ≡ k = omega arith in
      subst (λ (n : ℕ). get_or (xs ++ ys) n 0 < 2 ^ 64) place (rw (get_or-append-add xs ys (k - length xs) 0) (b.below (k - length xs))))
      (cases_lt k (length xs));
}

pub words_of_parts : WordsOfParts
words_of_parts = record { appended = words_appended; first = words_first; behind = words_behind; within = words_from }
