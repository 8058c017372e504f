-- The carries of a sum.
use Rattle.std.specs.Prelude.{ℕ, zero, suc, ◌+◌, ◌/◌}
use Rattle.std.specs.Int.{bit_at}

-- the carry out of a place of a sum
unfoldable pub carry_out : ℕ → ℕ → ℕ → ℕ
carry_out x y zero = (bit_at x 0 + bit_at y 0) / 2
carry_out x y (suc i) = (bit_at x (suc i) + bit_at y (suc i) + carry_out x y i) / 2

-- the carry into a place
abbrev pub carry_into : ℕ → ℕ → ℕ → ℕ
carry_into x y zero = 0
carry_into x y (suc i) = carry_out x y i
