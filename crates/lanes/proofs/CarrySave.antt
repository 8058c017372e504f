-- Three words as two with the same sum, and a product by them.
use Rattle.std.proofs.Common.{◌≡◌, ℕ, zero, suc, ◌+◌, ◌*◌, ◌%◌, ◌^◌, ◌<◌, min, ap, ◌∙◌, arith}
use Rattle.std.specs.Prelude.{bit_and, bit_xor}
use Rattle.std.specs.Int.{bit_at}
use Rattle.std.specs.Int.Bits.{xor_add_and}
use Rattle.std.proofs.lemmas.Nat.Bits.{bit_at-zero, bit_at_and, bit_at_xor, bit_at-lt, same_from_bits}
use Rattle.lanes.specs.CarrySave.{CarrySaveKeepsSum, saved_terms}
use Rattle.lanes.specs.Product.{product_after, product_term}
use Rattle.lanes.specs.Sums.{product_word, sum_word}
use Rattle.lanes.proofs.WordProduct.{product_of_terms}

-- the carry of three bits: of the first two, or of their sum and the third, and never both
one_carry : (a b c : ℕ) → a < 2 → b < 2 → c < 2 → (min ((a + b) % 2) ((a + c) % 2) + a) % 2 ≡ (min ((a + b) % 2) c + min a b) % 2
one_carry a b c first second third = omega arith

not_both : (a b c : ℕ) → a < 2 → b < 2 → min (min ((a + b) % 2) c) (min a b) ≡ 0
not_both a b c first second = omega arith

carries_are : (a b c : ℕ) → bit_xor (bit_and (bit_xor a b) (bit_xor a c)) a ≡ bit_xor (bit_and (bit_xor a b) c) (bit_and a b)
carries_are a b c =
    same_from_bits _ _ (λ i. simp (bit_at_and, bit_at_xor) (one_carry (bit_at a i) (bit_at b i) (bit_at c i) (bit_at-lt a i) (bit_at-lt b i) (bit_at-lt c i)))

carries_apart : (a b c : ℕ) → bit_and (bit_and (bit_xor a b) c) (bit_and a b) ≡ 0
carries_apart a b c =
    same_from_bits _ _ (λ i. simp (bit_at_and, bit_at_xor, bit_at-zero) (not_both (bit_at a i) (bit_at b i) (bit_at c i) (bit_at-lt a i) (bit_at-lt b i)))

whole_sum : (a b c : ℕ) → bit_xor (bit_xor a b) c + bit_xor (bit_and (bit_xor a b) (bit_xor a c)) a * 2 ≡ a + b + c
whole_sum a b c =
    omega (
      arith,
      carries_are a b c,
      carries_apart a b c,
      xor_add_and a b,
      xor_add_and (bit_xor a b) c,
      xor_add_and (bit_and (bit_xor a b) c) (bit_and a b),
    )

pub carry_save : CarrySaveKeepsSum
carry_save a b c = omega (arith, whole_sum a b c)

-- the terms so far
saved_so_far : (more x y : ℕ) → sum_word (saved_terms more x y).sum (saved_terms more x y).carry ≡ product_after (suc more) x y
unfolding saved_terms product_after
saved_so_far zero x y = omega arith
saved_so_far (suc more) x y =
    let s = (saved_terms more x y).sum in
    let c = (saved_terms more x y).carry in
    let t = product_term (suc (suc more)) x y in
    carry_save s c t ∙ regrouped s c t ∙ ap (λ n. sum_word n t) (saved_so_far more x y)
  where
    regrouped : (s c t : ℕ) → (s + c + t) % 2 ^ 64 ≡ sum_word (sum_word s c) t
    regrouped s c t = omega arith

pub product_of_saved : (x y : ℕ) → y < 2 ^ 64 → sum_word (saved_terms 62 x y).sum (saved_terms 62 x y).carry ≡ product_word x y
product_of_saved x y below = saved_so_far 62 x y ∙ product_of_terms x y below
