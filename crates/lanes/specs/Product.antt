-- A product by shifts and sums.
use Rattle.std.specs.Prelude.{ℕ, zero, suc, bit_and}
use Rattle.lanes.specs.Shifts.{shifted_left, shifted_right, spread_word}
use Rattle.lanes.specs.Sums.{sum_word}

-- a word, moved up to a bit of the other, where that bit is 1
abbrev pub product_term : ℕ → ℕ → ℕ → ℕ
product_term i x y = bit_and (spread_word (shifted_right i y)) (shifted_left i x)

-- the sum of the terms of the bits up to this one
unfoldable pub product_after : ℕ → ℕ → ℕ → ℕ
product_after zero x y = product_term 0 x y
product_after (suc i) x y = sum_word (product_after i x y) (product_term (suc i) x y)
