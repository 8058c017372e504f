-- A product as a sum of shifted words under the spread bits of the other.
use Rattle.std.proofs.Common.{◌≡◌, ℕ, zero, suc, ◌+◌, ◌*◌, ◌/◌, ◌%◌, ◌^◌, ◌<◌, ⊎_elim, sym, ap, ◌∙◌, arith}
use Rattle.std.proofs.Math.Nat.{add-mod, mul-add, mul-one, mul_assoc, mul_comm, one-mul, zero-mul}
use Rattle.std.specs.Int.{bit_at}
use Rattle.std.proofs.lemmas.Nat.{mod_below, mod-pow-add}
use Rattle.std.proofs.lemmas.Nat.Bits.{bit_at-lt, bit_at_lowest}
use Rattle.lanes.specs.Shifts.{shifted_left}
use Rattle.lanes.specs.Sums.{product_word}
use Rattle.lanes.specs.Product.{product_after, product_term}
use Rattle.lanes.proofs.Carries.{bit_cases}
use Rattle.lanes.proofs.WordChoice.{spread_off, spread_on}

-- sums modulo a number
mod_sum : (a b m : ℕ) → (a % m + b % m) % m ≡ (a + b) % m
mod_sum a b m = sym (add-mod a b m)

-- a term is the word times its bit's weight
term_is : (i x y : ℕ) → product_term i x y ≡ bit_at y i * (x * 2 ^ i) % 2 ^ 64
term_is i x y = ⊎_elim
    (λ (off : bit_at y i ≡ 0). spread_off (y / 2 ^ i) (shifted_left i x) off ∙ sym (ap (λ b. b * (x * 2 ^ i) % 2 ^ 64) off ∙ ap (λ n. n % 2 ^ 64) (zero-mul (x * 2 ^ i))))
    (λ (on : bit_at y i ≡ 1). spread_on (y / 2 ^ i) (shifted_left i x) on (mod_below (x * 2 ^ i) (2 ^ 64) (omega arith))
    ∙ sym (ap (λ b. b * (x * 2 ^ i) % 2 ^ 64) on ∙ ap (λ n. n % 2 ^ 64) (one-mul (x * 2 ^ i))))
    (bit_cases (bit_at y i) (bit_at-lt y i))

-- a word times a number of which the top bit is set apart
top_apart : (x b w l : ℕ) → x * l + b * (x * w) ≡ x * (b * w + l)
top_apart x b w l =
    let moved : b * (x * w) ≡ x * (b * w) = sym (mul_assoc b x w) ∙ ap (λ n. n * w) (mul_comm b x) ∙ mul_assoc x b w in
    ap (λ n. x * l + n) moved ∙ omega (arith, mul-add x (b * w) l)

-- the sum so far is the product with the low bits
pub product_so_far : (i x y : ℕ) → product_after i x y ≡ x * (y % 2 ^ suc i) % 2 ^ 64
unfolding product_after
product_so_far zero x y =
    term_is 0 x y
    ∙ ap (λ n. n % 2 ^ 64) (ap (λ b. b * (x * 1)) (bit_at_lowest y) ∙ mul_comm (y % 2) (x * 1) ∙ ap (λ n. n * (y % 2)) (mul-one x))
product_so_far (suc i) x y =
    ap (λ n. (n + product_term (suc i) x y) % 2 ^ 64) (product_so_far i x y)
    ∙ ap (λ n. (x * (y % 2 ^ suc i) % 2 ^ 64 + n) % 2 ^ 64) (term_is (suc i) x y)
    ∙ mod_sum (x * (y % 2 ^ suc i)) (bit_at y (suc i) * (x * 2 ^ suc i)) (2 ^ 64)
    ∙ ap (λ n. n % 2 ^ 64) (top_apart x (bit_at y (suc i)) (2 ^ suc i) (y % 2 ^ suc i) ∙ ap (λ n. x * n) (sym low_bits))
  where
    low_bits : y % 2 ^ suc (suc i) ≡ bit_at y (suc i) * 2 ^ suc i + y % 2 ^ suc i
    low_bits =
        let place : suc (suc i) ≡ 1 + suc i = omega arith in
        ap (λ k. y % 2 ^ k) place ∙ mod-pow-add y 1 (suc i)

pub product_of_terms : (x y : ℕ) → y < 2 ^ 64 → product_after 63 x y ≡ product_word x y
product_of_terms x y below =
    let whole : y % 2 ^ 64 ≡ y = omega (arith, below) in
    product_so_far 63 x y ∙ ap (λ n. x * n % 2 ^ 64) whole
