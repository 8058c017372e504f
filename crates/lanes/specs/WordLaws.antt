-- Arithmetic, comparison and choice of words by xor, and and shifts.
use Rattle.std.specs.Prelude.{◌≡◌, ℕ, ◌%◌, ◌^◌, ◌<◌, bit_and, bit_xor}
use Rattle.lanes.specs.CarrySave.{saved_terms}
use Rattle.lanes.specs.Fold.{folded_word}
use Rattle.lanes.specs.Prefix.{carries_word}
use Rattle.lanes.specs.Shifts.{shifted_left, shifted_right, spread_word}
use Rattle.lanes.specs.Sums.{chosen_word, difference_word, equal_word, less_word, product_word, sum_word}
use Rattle.lanes.specs.Word.{word_not}

-- a sum by its carries, a comparison by the last carry, a difference by a turned sum, a product by saved terms, and
-- equality by the and of all bits of what two words share
pub record WordsByBits : Type 0 where
  pub sum : (x y : ℕ) → x < 2 ^ 64 → y < 2 ^ 64 → bit_xor (bit_xor x y) (shifted_left 1 (carries_word x y)) ≡ sum_word x y
  pub less : (x y : ℕ) → x < 2 ^ 64 → y < 2 ^ 64 → shifted_right 63 (carries_word (word_not x) y) ≡ less_word x y
  pub difference : (x y : ℕ) → x < 2 ^ 64 → y < 2 ^ 64 → word_not (sum_word (word_not x) y) ≡ difference_word x y
  pub product : (x y : ℕ) → y < 2 ^ 64 → sum_word (saved_terms 62 x y).sum (saved_terms 62 x y).carry ≡ product_word x y
  pub equality : (x y : ℕ) → x < 2 ^ 64 → y < 2 ^ 64 → bit_and (folded_word 6 (word_not (bit_xor x y))) 1 ≡ equal_word x y

-- a word under the spread of a flag, a choice by it, and a word turned twice
pub record WordsUnderFlags : Type 0 where
  pub off : (flag x : ℕ) → flag % 2 ≡ 0 → bit_and (spread_word flag) x ≡ 0
  pub on : (flag x : ℕ) → flag % 2 ≡ 1 → x < 2 ^ 64 → bit_and (spread_word flag) x ≡ x
  pub choice : (flag one other : ℕ) → one < 2 ^ 64 → other < 2 ^ 64 → bit_xor other (bit_and (spread_word flag) (bit_xor one other)) ≡ chosen_word flag one other
  pub twice : (x : ℕ) → word_not (word_not x) ≡ x
