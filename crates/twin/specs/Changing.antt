-- A word xored with another one, if there is one.
use Rattle.std.specs.Prelude.{ℕ, Option, Some, None, bit_xor}

abbrev pub xored : ℕ → Option ℕ → ℕ
xored w None = w
xored w (Some c) = bit_xor w c
