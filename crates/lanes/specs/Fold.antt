-- The and of all bits of a word, by halving.
use Rattle.std.specs.Prelude.{ℕ, zero, suc, ◌^◌, bit_and}
use Rattle.lanes.specs.Shifts.{shifted_right}

-- each bit of a word with those up to 2 ^ level - 1 places above it
unfoldable pub folded_word : ℕ → ℕ → ℕ
folded_word zero x = x
folded_word (suc level) x = bit_and (folded_word level x) (shifted_right (2 ^ level) (folded_word level x))
