-- A choice between two words as xors and an and, and the equality of words as a fold of their bits.
use Rattle.std.proofs.Common.{◌≡◌, ℕ, zero, suc, ◌+◌, ◌-◌, ◌*◌, ◌%◌, ◌^◌, ◌<◌, ◌≤◌, ◌==◌, ◌⊎◌, ⊎_elim, inl, inr, true, false, min, sym, ap, ◌∙◌, arith}
use Rattle.std.specs.Prelude.{bit_and, bit_xor}
use Rattle.std.specs.Int.{bit_at}
use Rattle.std.specs.Int.Bits.{xor_self, xor_zero_r}
use Rattle.std.proofs.lemmas.Bool.{cases_lt}
use Rattle.std.proofs.lemmas.Bool.Decides.{nat_tests}
use Rattle.std.proofs.lemmas.Nat.{and_comm, and_mask, mod_below, xor_comm, xor_lt}
use Rattle.std.proofs.lemmas.Nat.Bits.{bit_at_and, bit_at-lt, bit_at_lowest, bit_at_ones, same_from_bits_below}
use Rattle.lanes.specs.Word.{word_not}
use Rattle.lanes.specs.Shifts.{shifted_right, spread_word}
use Rattle.lanes.specs.Sums.{chosen_word, equal_word}
use Rattle.lanes.specs.Fold.{folded_word}
use Rattle.lanes.proofs.Carries.{bit_at-shifted_right, bit_cases}
use Rattle.lanes.proofs.WordLemmas.{same_from_xor, xor_twice}
use Rattle.lanes.proofs.WordSums.{word_not_is}

-- a word under the spread of a flag
pub spread_off : (flag x : ℕ) → flag % 2 ≡ 0 → bit_and (spread_word flag) x ≡ 0
spread_off flag x off = ap (λ b. bit_and (b * (2 ^ 64 - 1)) x) off ∙ and_comm 0 x ∙ and_mask x 0 ∙ omega arith

pub spread_on : (flag x : ℕ) → flag % 2 ≡ 1 → x < 2 ^ 64 → bit_and (spread_word flag) x ≡ x
spread_on flag x on below = ap (λ b. bit_and (b * (2 ^ 64 - 1)) x) on ∙ and_comm (2 ^ 64 - 1) x ∙ and_mask x 64 ∙ omega (arith, below)

pub choice_by_mask : (flag one other : ℕ) → one < 2 ^ 64 → other < 2 ^ 64
    → bit_xor other (bit_and (spread_word flag) (bit_xor one other)) ≡ chosen_word flag one other
choice_by_mask flag one other first second =
    ⊎_elim (λ (off : flag % 2 ≡ 0). none off) (λ (on : flag % 2 ≡ 1). full on) (bit_cases (flag % 2) (mod_below flag 2 (omega arith)))
  where
    none : flag % 2 ≡ 0 → bit_xor other (bit_and (spread_word flag) (bit_xor one other)) ≡ chosen_word flag one other
    none off =
        let no : (flag % 2 == 1) ≡ false = grind (arith, nat_tests) in
        rw no (ap (bit_xor other) (spread_off flag (bit_xor one other) off) ∙ xor_zero_r other)

    full : flag % 2 ≡ 1 → bit_xor other (bit_and (spread_word flag) (bit_xor one other)) ≡ chosen_word flag one other
    full on =
        let yes : (flag % 2 == 1) ≡ true = grind (arith, nat_tests) in
        rw yes (ap (bit_xor other) (spread_on flag (bit_xor one other) on (xor_lt 64 one other first second) ∙ xor_comm one other) ∙ xor_twice other one)

-- so many bits of a word from a place on are ones
abbrev pub AllOnes : ℕ → ℕ → ℕ → Type 0
AllOnes x i n = (j : ℕ) → j < n → bit_at x (i + j) ≡ 1

both_ones : (a b : ℕ) → a < 2 → b < 2 → min a b ≡ 1 → (a ≡ 1) × (b ≡ 1)
both_ones a b first second is = (omega arith, omega arith)

-- a bit of the fold is a one exactly where all its bits are
pub ones_of_fold : (level x i : ℕ) → bit_at (folded_word level x) i ≡ 1 → AllOnes x i (2 ^ level)
unfolding folded_word
ones_of_fold zero x i is j below =
    let place : i + j ≡ i = omega arith in
    ap (bit_at x) place ∙ is
ones_of_fold (suc level) x i is j below =
    let e = folded_word level x in
    let both = both_ones _ _ (bit_at-lt e i) (bit_at-lt (shifted_right (2 ^ level) e) i) (sym (bit_at_and e _ i) ∙ is) in
    ⊎_elim
    (λ (low : j < 2 ^ level). ones_of_fold level x i both.0 j low)
    (λ (high : 2 ^ level ≤ j).
    let place : i + 2 ^ level + (j - 2 ^ level) ≡ i + j = omega arith in
    ap (bit_at x) (sym place) ∙ ones_of_fold level x (i + 2 ^ level) (sym (bit_at-shifted_right (2 ^ level) e i) ∙ both.1) (j - 2 ^ level) (omega arith))
    (cases_lt j (2 ^ level))

one_and_one : (a b : ℕ) → a ≡ 1 → b ≡ 1 → min a b ≡ 1
one_and_one a b first second = omega arith

pub fold_of_ones : (level x i : ℕ) → AllOnes x i (2 ^ level) → bit_at (folded_word level x) i ≡ 1
unfolding folded_word
fold_of_ones zero x i all =
    let place : i + 0 ≡ i = omega arith in
    ap (bit_at x) (sym place) ∙ all 0 (omega arith)
fold_of_ones (suc level) x i all =
    let e = folded_word level x in
    bit_at_and e _ i
    ∙ one_and_one _ _ (fold_of_ones level x i (λ j below. all j (omega arith)))
    (bit_at-shifted_right (2 ^ level) e i ∙ fold_of_ones level x (i + 2 ^ level) (λ j below. upper j below))
  where
    upper : (j : ℕ) → j < 2 ^ level → bit_at x (i + 2 ^ level + j) ≡ 1
    upper j below =
        let place : i + 2 ^ level + j ≡ i + (2 ^ level + j) = omega arith in
        ap (bit_at x) place ∙ all (2 ^ level + j) (omega arith)

-- words are equal exactly where all bits of what they have in common are ones
same_bits : (x y : ℕ) → x < 2 ^ 64 → y < 2 ^ 64 → AllOnes (word_not (bit_xor x y)) 0 64 → x ≡ y
same_bits x y first second all =
    let differing = bit_xor x y in
    let below : differing < 2 ^ 64 = xor_lt 64 x y first second in
    let turned = word_not_is differing below in
    let whole : word_not differing ≡ 2 ^ 64 - 1 =
    same_from_bits_below 64 _ _ (omega arith) (omega arith) (λ i word. ap (bit_at (word_not differing)) (omega arith) ∙ all i word ∙ sym (bit_at_ones 64 i word)) in
    same_from_xor x y (omega arith)

ones_of_same : (x : ℕ) → AllOnes (word_not (bit_xor x x)) 0 64
ones_of_same x j below =
    let place : 0 + j ≡ j = omega arith in
    ap (λ b. bit_at (word_not b) (0 + j)) (xor_self x) ∙ ap (λ n. bit_at n (0 + j)) (word_not_is 0 (omega arith)) ∙ ap (bit_at (2 ^ 64 - 1)) place ∙ bit_at_ones 64 j below

zero_one : ◌≡◌ {A = ℕ} 0 1 → ⊥
zero_one h = omega arith

-- numbers are equal or not
equal_cases : (a b : ℕ) → (a ≡ b) ⊎ (a ≡ b → ⊥)
equal_cases a b = ⊎_elim
    (λ (less : a < b). inr (λ h. omega arith))
    (λ (more : b ≤ a). ⊎_elim (λ (greater : b < a). inr (λ h. omega arith)) (λ (h : a ≤ b). inl (omega arith)) (cases_lt b a))
    (cases_lt a b)

pub equality_by_fold : (x y : ℕ) → x < 2 ^ 64 → y < 2 ^ 64 → bit_and (folded_word 6 (word_not (bit_xor x y))) 1 ≡ equal_word x y
equality_by_fold x y first second =
    and_mask fold 1 ∙ sym (bit_at_lowest fold)
    ∙ ⊎_elim (λ (none : bit_at fold 0 ≡ 0). differ none) (λ (full : bit_at fold 0 ≡ 1). same full) (bit_cases (bit_at fold 0) (bit_at-lt fold 0))
  where
    fold : ℕ
    fold = folded_word 6 (word_not (bit_xor x y))

    same : bit_at fold 0 ≡ 1 → bit_at fold 0 ≡ equal_word x y
    same full =
        let equal : x ≡ y = same_bits x y first second (ones_of_fold 6 _ 0 full) in
        let yes : (x == y) ≡ true = grind (arith, nat_tests) in
        rw yes full

    differ : bit_at fold 0 ≡ 0 → bit_at fold 0 ≡ equal_word x y
    differ none = ⊎_elim
        (λ (equal : x ≡ y). absurd (zero_one (sym none ∙ ap (λ n. bit_at (folded_word 6 (word_not (bit_xor x n))) 0) (sym equal) ∙ fold_of_ones 6 _ 0 (ones_of_same x))))
        (λ (other : x ≡ y → ⊥). let no : (x == y) ≡ false = grind (arith, nat_tests) in rw no none)
        (equal_cases x y)
