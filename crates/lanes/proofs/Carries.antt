-- The carries of a sum, place by place.
use Rattle.std.proofs.Common.{◌≡◌, ℕ, zero, suc, ◌+◌, ◌-◌, ◌*◌, ◌/◌, ◌%◌, ◌^◌, ◌<◌, ◌≤◌, ◌⊎◌, min, sym, ap, ◌∙◌, inl, inr, ⊎_elim, add-zero, arith}
use Rattle.std.proofs.Math.Nat.{mul-one, mul-zero, one-mul, zero-mul}
use Rattle.std.specs.Prelude.{bit_and, bit_xor}
use Rattle.std.specs.Int.{bit_at}
use Rattle.std.proofs.lemmas.Bool.{cases_lt}
use Rattle.std.proofs.lemmas.Nat.{pow_pos, shr-shr, shr_split}
use Rattle.std.proofs.lemmas.Nat.Bits.{bit_at-zero, bit_at_and, bit_at_xor, bit_at-lt, bit_at_cat_low, bit_at_cat_high, bit_at_lowest}
use Rattle.lanes.specs.Shifts.{shifted_left, shifted_right}
use Rattle.lanes.specs.Carry.{carry_out}

-- a bit below the width of a remainder is the number's bit
pub bit_at-mod : (m w i : ℕ) → i < w → bit_at (m % 2 ^ w) i ≡ bit_at m i
bit_at-mod m w i below =
    sym (bit_at_cat_low (m / 2 ^ w) w (m % 2 ^ w) i below) ∙ ap (λ n. bit_at n i) (shr_split m w)

-- the bits of a word that was shifted towards the high bits
pub bit_at-shifted_low : (n x i : ℕ) → i < n → i < 64 → bit_at (shifted_left n x) i ≡ 0
bit_at-shifted_low n x i below word =
    bit_at-mod (x * 2 ^ n) 64 i word
    ∙ ap (λ m. bit_at m i) (sym (add-zero (x * 2 ^ n)))
    ∙ bit_at_cat_low x n 0 i below
    ∙ bit_at-zero i

pub bit_at-shifted_high : (n x i : ℕ) → n ≤ i → i < 64 → bit_at (shifted_left n x) i ≡ bit_at x (i - n)
bit_at-shifted_high n x i above word =
    bit_at-mod (x * 2 ^ n) 64 i word
    ∙ ap (λ m. bit_at m i) (sym (add-zero (x * 2 ^ n)))
    ∙ bit_at_cat_high x n 0 i (pow_pos n) above

-- a bit of a word that was shifted towards the low bits
pub bit_at-shifted_right : (n x i : ℕ) → bit_at (shifted_right n x) i ≡ bit_at x (i + n)
bit_at-shifted_right n x i =
    let place : n + i ≡ i + n = omega arith in
    ap (λ q. q % 2) (shr-shr x n i ∙ ap (λ k. x / 2 ^ k) place)

-- a bit is 0 or 1
pub bit_cases : (b : ℕ) → b < 2 → (b ≡ 0) ⊎ (b ≡ 1)
bit_cases b below = ⊎_elim (λ (h : b < 1). inl (omega arith)) (λ (h : 1 ≤ b). inr (omega arith)) (cases_lt b 1)

-- two bits of a sum and a product of bits, at one place and at a place n below
pub apart_wider : (g p g' p' : ℕ) → g + p ≤ 1 → g' + p' ≤ 1 → (g + min p g') % 2 + min p p' ≤ 1
apart_wider g p g' p' one other = omega arith

pub out_wider : (g p g' p' out : ℕ) → p < 2 → g + p ≤ 1 → g' + p' ≤ 1 → g + p * (g' + p' * out) ≡ (g + min p g') % 2 + min p p' * out
out_wider g p g' p' out bit one other =
    ⊎_elim (λ (none : p ≡ 0). rw none (zero_case g g' p' out (omega arith) other)) (λ (full : p ≡ 1). rw full (one_case g g' p' out (omega arith) other)) (bit_cases p bit)
  where
    zero_case : (g g' p' out : ℕ) → g ≤ 1 → g' + p' ≤ 1 → g + 0 * (g' + p' * out) ≡ (g + min 0 g') % 2 + min 0 p' * out
    zero_case g g' p' out one other =
        let none : min 0 p' ≡ 0 = omega arith in
        rw (none, zero-mul, zero-mul) (omega arith)

    one_case : (g g' p' out : ℕ) → g ≤ 0 → g' + p' ≤ 1 → g + 1 * (g' + p' * out) ≡ (g + min 1 g') % 2 + min 1 p' * out
    one_case g g' p' out none other =
        let same : min 1 p' ≡ p' = omega arith in
        rw (same, one-mul) (omega arith)

-- a carry is a bit
carry_bit : (x y i : ℕ) → carry_out x y i < 2
unfolding carry_out
carry_bit x y zero = omega (arith, bit_at-lt x 0, bit_at-lt y 0)
carry_bit x y (suc i) = omega (arith, bit_at-lt x (suc i), bit_at-lt y (suc i), carry_bit x y i)

-- two bits and a carry below them make a carry
carried : (a b c : ℕ) → a < 2 → b < 2 → c < 2 → (a + b + c) / 2 ≡ min a b + (a + b) % 2 * c
carried a b c first second below =
    ⊎_elim (λ (none : c ≡ 0). rw (none, mul-zero) (omega arith)) (λ (full : c ≡ 1). rw (full, mul-one) (omega arith)) (bit_cases c below)

pub carry_above : (x y i : ℕ) → carry_out x y (suc i) ≡ bit_at (bit_and x y) (suc i) + bit_at (bit_xor x y) (suc i) * carry_out x y i
unfolding carry_out
carry_above x y i = rw (bit_at_and, bit_at_xor) (carried _ _ _ (bit_at-lt x (suc i)) (bit_at-lt y (suc i)) (carry_bit x y i))

-- half of a quotient
halved : (n i : ℕ) → n / 2 ^ suc (suc i) ≡ n / 2 ^ suc i / 2
halved n i =
    let place : suc (suc i) ≡ suc i + 1 = omega arith in
    ap (λ k. n / 2 ^ k) place ∙ sym (shr-shr n (suc i) 1)

-- a sum behind its lowest places is the sum of what is behind them and the carry
pub sum_behind : (x y i : ℕ) → (x + y) / 2 ^ suc i ≡ x / 2 ^ suc i + y / 2 ^ suc i + carry_out x y i
unfolding carry_out
sum_behind x y zero = omega (arith, bit_at_lowest x, bit_at_lowest y)
sum_behind x y (suc i) = omega (arith, halved (x + y) i, halved x i, halved y i, sum_behind x y i)

-- the bits of a sum
pub sum_bit_lowest : (x y : ℕ) → bit_at (x + y) 0 ≡ (bit_at x 0 + bit_at y 0) % 2
sum_bit_lowest x y = omega (arith, bit_at_lowest (x + y), bit_at_lowest x, bit_at_lowest y)

pub sum_bit : (x y i : ℕ) → bit_at (x + y) (suc i) ≡ (bit_at x (suc i) + bit_at y (suc i) + carry_out x y i) % 2
sum_bit x y i = omega (arith, sum_behind x y i)
