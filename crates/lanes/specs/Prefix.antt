-- The words of a parallel prefix adder whose level joins the upper half of each block of places with the top of its
-- lower half (after Sklansky, 1960). At level l a half has 2 ^ l places. Each of the 32 upper places has two
-- products, one that makes a carry and one that hands it on, and both fit one word.
use Rattle.std.specs.Prelude.{ℕ, zero, suc, ◌+◌, ◌-◌, ◌/◌, ◌^◌, bit_and, bit_xor}
use Rattle.lanes.specs.Shifts.{shifted_left, shifted_right}

-- for blocks of places: of each place, whether those of its block up to it make a carry, and whether they hand one on
pub record Span : Type 0 where
  pub generate : ℕ
  pub propagate : ℕ

-- the places of the lower halves, those of the upper halves, and the highest place of each lower half
unfoldable pub lower_places : ℕ → ℕ
lower_places level = (2 ^ 64 - 1) / (2 ^ 2 ^ level + 1)

unfoldable pub upper_places : ℕ → ℕ
upper_places level = 2 ^ 64 - 1 - lower_places level

unfoldable pub top_places : ℕ → ℕ
top_places level = bit_and (lower_places level) (upper_places level / 2)

-- what the upper places hand on, in both halves
unfoldable pub upper_twice : ℕ → ℕ → ℕ
upper_twice level propagate = bit_xor (bit_and propagate (upper_places level)) (shifted_right (2 ^ level) (bit_and propagate (upper_places level)))

-- at the top of each lower half what it makes, and at the top of each upper half what that lower half hands on
unfoldable pub half_tops : ℕ → ℕ → ℕ → ℕ
half_tops level generate propagate = bit_xor (bit_and generate (top_places level)) (shifted_left (2 ^ level) (bit_and propagate (top_places level)))

-- each bit with those of the places above it that are fewer than 2 ^ steps away
unfoldable pub spread_down : ℕ → ℕ → ℕ
spread_down zero x = x
spread_down (suc steps) x = bit_xor (spread_down steps x) (shifted_right (2 ^ steps) (spread_down steps x))

-- both products of the upper places: in the lower halves those that make a carry, in the upper halves those that hand it on
unfoldable pub half_products : ℕ → ℕ → ℕ → ℕ
half_products level generate propagate = bit_and (upper_twice level propagate) (spread_down level (half_tops level generate propagate))

unfoldable pub joined_generate : ℕ → ℕ → ℕ → ℕ
joined_generate level generate products = bit_xor generate (shifted_left (2 ^ level) (bit_and products (lower_places level)))

unfoldable pub joined_propagate : ℕ → ℕ → ℕ → ℕ
joined_propagate level propagate products = bit_xor (bit_and propagate (lower_places level)) (bit_and products (upper_places level))

-- blocks of one place
abbrev pub first_span : ℕ → ℕ → Span
first_span x y = record { generate = bit_and x y; propagate = bit_xor x y }

-- blocks of twice as many places
abbrev pub joined_span : ℕ → Span → Span
joined_span level span = record {
  generate = joined_generate level span.generate (half_products level span.generate span.propagate);
  propagate = joined_propagate level span.propagate (half_products level span.generate span.propagate);
}

-- blocks of 2 ^ level places
unfoldable pub span_after : ℕ → ℕ → ℕ → Span
span_after zero x y = first_span x y
span_after (suc level) x y = joined_span level (span_after level x y)

-- the word of the carries out of each place
abbrev pub carries_word : ℕ → ℕ → ℕ
carries_word x y = (span_after 6 x y).generate
