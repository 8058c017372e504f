-- Words: numbers below 2 ^ 64, and not as a xor with all ones.
use Rattle.std.specs.Prelude.{ℕ, ◌<◌, ◌^◌, ◌-◌, bit_xor, bit_and, List, slice_index}

-- each bit of a word turned
abbrev pub word_not : ℕ → ℕ
word_not x = bit_xor x (2 ^ 64 - 1)

-- each item of a list is a word; past its end the default is one too
pub record AreWords (xs : List ℕ) : Type 0 where
  pub below : (k : ℕ) → slice_index xs k < 2 ^ 64

-- what one party adds to the xor of a shared and: its own two products and one with each
-- neighbour's share (after Araki and others, 2016)
abbrev pub cross : ℕ → ℕ → ℕ → ℕ → ℕ
cross x x' y y' = bit_xor (bit_xor (bit_and x y) (bit_and x y')) (bit_and x' y)
