-- The bytes of a tape: a word is 8 bytes, an order of n is n numbers of 4 bytes, high byte first, one
-- draw after the other with nothing between them.
use Rattle.std.specs.Prelude.{ℕ, List}
use Rattle.std.specs.Int.{w32, w64, to_be_bytes}
use Rattle.std.specs.List.{flat_map}
use Rattle.tapes.specs.declared.draw.Draw.{Draw}
use Rattle.tapes.specs.declared.draw.Draw.TheVariants.{Word, Order}

-- numbers of 4 bytes
abbrev pub number_bytes : List ℕ → List ℕ
number_bytes numbers = flat_map (λ n. to_be_bytes w32 n) numbers

-- a draw
abbrev pub draw_bytes : Draw → List ℕ
draw_bytes (Word w) = to_be_bytes w64 w
draw_bytes (Order o) = number_bytes o

-- a tape
abbrev pub tape_bytes : List Draw → List ℕ
tape_bytes draws = flat_map draw_bytes draws
