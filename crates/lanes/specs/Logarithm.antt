-- The logarithm to base 2, rounded up: how many levels a tree of pairs over so many words has.
use Rattle.std.specs.Prelude.{◌≡◌, ◌<◌, ◌≤◌, ℕ, zero, suc, true, false, ◌+◌, ◌*◌, ◌/◌, ◌^◌, nat_le}

-- the first number from `level` on, among so many, with n ≤ 2 ^ it
unfoldable pub first_level : ℕ → ℕ → ℕ → ℕ
first_level zero level n = level
first_level (suc more) level n = elim (nat_le n (2 ^ level)) [ true ↦ level | false ↦ first_level more (suc level) n ]

-- the least number l with n ≤ 2 ^ l; n itself is always such a number
unfoldable pub ceil_log2 : ℕ → ℕ
ceil_log2 n = first_level n 0 n

-- it is the least such number
pub record IsLeastLog : Type 0 where
  pub enough : (n : ℕ) → n ≤ 2 ^ ceil_log2 n
  pub least : (n l : ℕ) → n ≤ 2 ^ l → ceil_log2 n ≤ l

-- of 1 and of powers of 2, of twice and of half a number; it rises with its argument, and up to 2 ^ 32 it is at most 32
pub record LogOfNumbers : Type 0 where
  pub one : ceil_log2 1 ≡ 0
  pub power : (l : ℕ) → ceil_log2 (2 ^ l) ≡ l
  pub doubled : (n : ℕ) → 0 < n → ceil_log2 (2 * n) ≡ suc (ceil_log2 n)
  pub halved : (n : ℕ) → 1 < n → ceil_log2 n ≡ suc (ceil_log2 ((n + 1) / 2))
  pub rises : (m n : ℕ) → m ≤ n → ceil_log2 m ≤ ceil_log2 n
  pub short : (n : ℕ) → n ≤ 2 ^ 32 → ceil_log2 n ≤ 32

-- it is how many doublings from 1 on there are until n is reached
abbrev pub LogCountsDoublings : Type 0
LogCountsDoublings = (n l : ℕ) → ((k : ℕ) → k < l → 2 ^ k < n) → n ≤ 2 ^ l → ceil_log2 n ≡ l
