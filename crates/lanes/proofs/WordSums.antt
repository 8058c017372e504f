-- Sums, differences and comparisons of words by their carries.
use Rattle.std.proofs.Common.{◌≡◌, ℕ, zero, suc, ◌+◌, ◌-◌, ◌*◌, ◌/◌, ◌%◌, ◌^◌, ◌<◌, ◌≤◌, ◌⊎◌, ⊎_elim, true, false, sym, ap, ◌∙◌, arith}
use Rattle.std.specs.Prelude.{bit_xor, nat_lt}
use Rattle.std.specs.Int.{bit_at}
use Rattle.std.specs.Int.Bits.{xor_add_and}
use Rattle.std.proofs.lemmas.Bool.Decides.{nat_tests}
use Rattle.std.proofs.lemmas.Bool.{cases_lt}
use Rattle.std.proofs.lemmas.Nat.{and_mask, mod_below, xor_lt}
use Rattle.std.proofs.lemmas.Nat.Bits.{bit_at_xor, same_from_bits_below}
use Rattle.lanes.specs.Word.{word_not}
use Rattle.lanes.specs.Shifts.{shifted_left, shifted_right}
use Rattle.lanes.specs.Sums.{difference_word, less_word, sum_word}
use Rattle.lanes.specs.Carry.{carry_out}
use Rattle.lanes.specs.Prefix.{carries_word}
use Rattle.lanes.proofs.Carries.{bit_at-mod, bit_at-shifted_low, bit_at-shifted_high, sum_behind, sum_bit, sum_bit_lowest}
use Rattle.lanes.proofs.Prefix.{last_blocks, span_words}

-- a word turned is what it lacks to all ones
pub word_not_is : (x : ℕ) → x < 2 ^ 64 → word_not x ≡ 2 ^ 64 - 1 - x
word_not_is x below = omega (arith, xor_add_and x (2 ^ 64 - 1), and_mask x 64)

-- the carry out of a place is a bit of the carries' word
pub carries_bit : (x y i : ℕ) → i < 64 → carry_out x y i ≡ bit_at (carries_word x y) i
carries_bit x y i word = last_blocks x y i word

pub carries_lt : (x y : ℕ) → x < 2 ^ 64 → y < 2 ^ 64 → carries_word x y < 2 ^ 64
carries_lt x y first second = (span_words 6 x y (omega arith) first second).0

whole : (a b : ℕ) → ((a + b) % 2 + 0) % 2 ≡ (a + b) % 2
whole a b = omega arith

carried : (a b c : ℕ) → ((a + b) % 2 + c) % 2 ≡ (a + b + c) % 2
carried a b c = omega arith

-- a sum is the xor of the words and of the carries into their places
pub sum_of_carries : (x y : ℕ) → x < 2 ^ 64 → y < 2 ^ 64 → bit_xor (bit_xor x y) (shifted_left 1 (carries_word x y)) ≡ sum_word x y
sum_of_carries x y first second =
    same_from_bits_below 64 _ _ (xor_lt 64 (bit_xor x y) _ (xor_lt 64 x y first second) (mod_below (carries_word x y * 2 ^ 1) (2 ^ 64) (omega arith))) (mod_below (x + y) (2 ^ 64) (omega arith))
    (λ i word. sum_place i word)
  where
    sum_place : (i : ℕ) → i < 64 → bit_at (bit_xor (bit_xor x y) (shifted_left 1 (carries_word x y))) i ≡ bit_at (sum_word x y) i
    sum_place zero word =
        bit_at_xor (bit_xor x y) _ 0
        ∙ ap (λ b. (bit_at (bit_xor x y) 0 + b) % 2) (bit_at-shifted_low 1 (carries_word x y) 0 (omega arith) word)
        ∙ ap (λ b. (b + 0) % 2) (bit_at_xor x y 0)
        ∙ whole (bit_at x 0) (bit_at y 0)
        ∙ sym (bit_at-mod (x + y) 64 0 word ∙ sum_bit_lowest x y)
    sum_place (suc i) word =
        let place : suc i - 1 ≡ i = omega arith in
        bit_at_xor (bit_xor x y) _ (suc i)
        ∙ ap (λ b. (bit_at (bit_xor x y) (suc i) + b) % 2)
        (bit_at-shifted_high 1 (carries_word x y) (suc i) (omega arith) word ∙ ap (λ k. bit_at (carries_word x y) k) place ∙ sym (carries_bit x y i (omega arith)))
        ∙ ap (λ b. (b + carry_out x y i) % 2) (bit_at_xor x y (suc i))
        ∙ carried (bit_at x (suc i)) (bit_at y (suc i)) (carry_out x y i)
        ∙ sym (bit_at-mod (x + y) 64 (suc i) word ∙ sum_bit x y i)

-- the carry out of the highest place
pub carry_of_sum : (x y : ℕ) → x < 2 ^ 64 → y < 2 ^ 64 → shifted_right 63 (carries_word x y) ≡ (x + y) / 2 ^ 64
carry_of_sum x y first second =
    omega (arith, carries_lt x y first second, carries_bit x y 63 (omega arith), sum_behind x y 63)

-- a word is less than another where turning it and adding the other carries
pub less_by_carry : (x y : ℕ) → x < 2 ^ 64 → y < 2 ^ 64 → shifted_right 63 (carries_word (word_not x) y) ≡ less_word x y
less_by_carry x y first second =
    let turned = word_not_is x first in
    let below : word_not x < 2 ^ 64 = omega (arith, turned) in
    carry_of_sum (word_not x) y below second ∙ ap (λ n. (n + y) / 2 ^ 64) turned ∙ compared (cases_lt x y)
  where
    compared : (x < y) ⊎ (y ≤ x) → (2 ^ 64 - 1 - x + y) / 2 ^ 64 ≡ less_word x y
    compared h = ⊎_elim
        (λ (less : x < y). let yes : nat_lt x y ≡ true = grind (arith, nat_tests) in rw yes (omega (arith, first, second)))
        (λ (more : y ≤ x). let no : nat_lt x y ≡ false = grind (arith, nat_tests) in rw no (omega (arith, first, second)))
        h

-- a difference is the sum of the turned word and the other, turned
pub difference_by_sum : (x y : ℕ) → x < 2 ^ 64 → y < 2 ^ 64 → word_not (sum_word (word_not x) y) ≡ difference_word x y
difference_by_sum x y first second =
    word_not_is (sum_word (word_not x) y) (mod_below (word_not x + y) (2 ^ 64) (omega arith))
    ∙ ap (λ n. 2 ^ 64 - 1 - (n + y) % 2 ^ 64) (word_not_is x first)
    ∙ omega (arith, first, second)
