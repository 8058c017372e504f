-- Shifts of a word, and its bit 0 spread over it.
use Rattle.std.specs.Prelude.{ℕ, ◌*◌, ◌/◌, ◌%◌, ◌^◌, ◌-◌}

-- a shift towards the high bits, of which those beyond the word fall away
abbrev pub shifted_left : ℕ → ℕ → ℕ
shifted_left by x = x * 2 ^ by % 2 ^ 64

-- a shift towards the low bits
abbrev pub shifted_right : ℕ → ℕ → ℕ
shifted_right by x = x / 2 ^ by

-- a word filled with its bit 0
abbrev pub spread_word : ℕ → ℕ
spread_word x = x % 2 * (2 ^ 64 - 1)
