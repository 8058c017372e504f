-- Arithmetic and comparison of words.
use Rattle.std.specs.Prelude.{ℕ, ◌+◌, ◌-◌, ◌*◌, ◌%◌, ◌^◌, ◌==◌, nat_lt, if◌then◌else◌}

-- sums, differences and products modulo 2 ^ 64
abbrev pub sum_word : ℕ → ℕ → ℕ
sum_word x y = (x + y) % 2 ^ 64

abbrev pub difference_word : ℕ → ℕ → ℕ
difference_word x y = (x + (2 ^ 64 - y)) % 2 ^ 64

abbrev pub product_word : ℕ → ℕ → ℕ
product_word x y = x * y % 2 ^ 64

-- 1 where the words are equal, where the first is less, and else 0
abbrev pub equal_word : ℕ → ℕ → ℕ
equal_word x y = if x == y then 1 else 0

abbrev pub less_word : ℕ → ℕ → ℕ
less_word x y = if nat_lt x y then 1 else 0

-- the first word where bit 0 of a flag is 1, and else the second
abbrev pub chosen_word : ℕ → ℕ → ℕ → ℕ
chosen_word flag one other = if flag % 2 == 1 then one else other
