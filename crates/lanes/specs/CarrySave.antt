-- Three words as two with the same sum (after Wallace, 1964), and a product by them.
use Rattle.std.specs.Prelude.{◌≡◌, ℕ, zero, suc, ◌+◌, ◌%◌, ◌^◌, bit_and, bit_xor}
use Rattle.lanes.specs.Shifts.{shifted_left}
use Rattle.lanes.specs.Sums.{sum_word}
use Rattle.lanes.specs.Product.{product_term}

-- the sums of places without their carries, and the carries of three bits, moved up to their places
abbrev pub saved_sum : ℕ → ℕ → ℕ → ℕ
saved_sum a b c = bit_xor (bit_xor a b) c

abbrev pub saved_carry : ℕ → ℕ → ℕ → ℕ
saved_carry a b c = shifted_left 1 (bit_xor (bit_and (bit_xor a b) (bit_xor a c)) a)

-- the two have the sum of the three
abbrev pub CarrySaveKeepsSum : Type 0
CarrySaveKeepsSum = (a b c : ℕ) → sum_word (saved_sum a b c) (saved_carry a b c) ≡ (a + b + c) % 2 ^ 64

-- two words that stand for their sum
pub record Saved : Type 0 where
  pub sum : ℕ
  pub carry : ℕ

-- the terms of a product, the first two and so many more
unfoldable pub saved_terms : ℕ → ℕ → ℕ → Saved
saved_terms zero x y = record { sum = product_term 0 x y; carry = product_term 1 x y }
saved_terms (suc more) x y = record {
  sum = saved_sum (saved_terms more x y).sum (saved_terms more x y).carry (product_term (suc (suc more)) x y);
  carry = saved_carry (saved_terms more x y).sum (saved_terms more x y).carry (product_term (suc (suc more)) x y);
}
