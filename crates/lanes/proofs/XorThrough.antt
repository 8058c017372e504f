-- Functions of words that go through xor.
use Rattle.std.proofs.Common.{◌≡◌, ℕ, ◌+◌, ◌-◌, ◌*◌, ◌%◌, ◌^◌, ◌<◌, ◌≤◌, ⊎_elim, [], ◌∷◌, refl, sym, ◌∙◌, ap, arith}
use Rattle.std.specs.Prelude.{bit_and, bit_xor}
use Rattle.std.specs.Int.{bit_at}
use Rattle.std.proofs.lemmas.Bool.{cases_lt}
use Rattle.std.proofs.lemmas.Nat.{mod_below, xor_lt, xor_mod, xor_shr}
use Rattle.std.proofs.lemmas.Nat.Bits.{bit_at_xor, same_from_bits_below}
use Rattle.lanes.specs.Shifts.{shifted_left, shifted_right, spread_word}
use Rattle.lanes.specs.XorLaws.{GoesThroughXor, XorGoesThrough, XorIsLanewise}
use Rattle.lanes.proofs.Carries.{bit_at-shifted_low, bit_at-shifted_high, bit_cases}
use Rattle.lanes.proofs.WordLemmas.{xor_and}

-- from one word to all lanes
pub goes_through : (f : ℕ → ℕ) → ((x y : ℕ) → f (bit_xor x y) ≡ bit_xor (f x) (f y)) → GoesThroughXor f
goes_through f h [] ys = refl
goes_through f h (x ∷ xs) [] = refl
goes_through f h (x ∷ xs) (y ∷ ys) = rw (h x y, goes_through f h xs ys) refl

shifted_below : (by x : ℕ) → shifted_left by x < 2 ^ 64
shifted_below by x = mod_below (x * 2 ^ by) (2 ^ 64) (omega arith)

pub left_of_xor : (by x y : ℕ) → shifted_left by (bit_xor x y) ≡ bit_xor (shifted_left by x) (shifted_left by y)
left_of_xor by x y =
    same_from_bits_below 64 _ _ (shifted_below by (bit_xor x y)) (xor_lt 64 _ _ (shifted_below by x) (shifted_below by y)) (λ i word. place i word)
  where
    none : (a b : ℕ) → a ≡ 0 → b ≡ 0 → 0 ≡ (a + b) % 2
    none a b h k = omega arith

    place : (i : ℕ) → i < 64 → bit_at (shifted_left by (bit_xor x y)) i ≡ bit_at (bit_xor (shifted_left by x) (shifted_left by y)) i
    place i word =
        ⊎_elim
        (λ (low : i < by). bit_at-shifted_low by (bit_xor x y) i low word
        ∙ none _ _ (bit_at-shifted_low by x i low word) (bit_at-shifted_low by y i low word)
        ∙ sym (bit_at_xor (shifted_left by x) (shifted_left by y) i))
        (λ (high : by ≤ i). bit_at-shifted_high by (bit_xor x y) i high word
        ∙ bit_at_xor x y (i - by)
        ∙ ap (λ b. (b + bit_at y (i - by)) % 2) (sym (bit_at-shifted_high by x i high word))
        ∙ ap (λ b. (bit_at (shifted_left by x) i + b) % 2) (sym (bit_at-shifted_high by y i high word))
        ∙ sym (bit_at_xor (shifted_left by x) (shifted_left by y) i))
        (cases_lt i by)

-- two bits spread
spread_bits : (a b : ℕ) → a < 2 → b < 2 → bit_xor a b * (2 ^ 64 - 1) ≡ bit_xor (a * (2 ^ 64 - 1)) (b * (2 ^ 64 - 1))
spread_bits a b first second =
    ⊎_elim
    (λ (x : a ≡ 0). ⊎_elim (λ (y : b ≡ 0). rw (x, y) refl) (λ (y : b ≡ 1). rw (x, y) refl) (bit_cases b second))
    (λ (x : a ≡ 1). ⊎_elim (λ (y : b ≡ 0). rw (x, y) refl) (λ (y : b ≡ 1). rw (x, y) refl) (bit_cases b second))
    (bit_cases a first)

pub spread_of_xor : (x y : ℕ) → spread_word (bit_xor x y) ≡ bit_xor (spread_word x) (spread_word y)
spread_of_xor x y =
    ap (λ b. b * (2 ^ 64 - 1)) (xor_mod x y 1) ∙ spread_bits (x % 2) (y % 2) (mod_below x 2 (omega arith)) (mod_below y 2 (omega arith))

pub xor_goes_through : XorGoesThrough
xor_goes_through = record {
  left = λ by. goes_through (shifted_left by) (left_of_xor by);
  right = λ by. goes_through (shifted_right by) (λ x y. xor_shr x y by);
  mask = λ word. goes_through (λ x. bit_and x word) (λ x y. xor_and x y word);
  spread = goes_through spread_word spread_of_xor;
}

pub xor_is_lanewise : XorIsLanewise
xor_is_lanewise [] [] e = refl
xor_is_lanewise [] (y ∷ ys) e = absurd (omega arith)
xor_is_lanewise (x ∷ xs) [] e = absurd (omega arith)
xor_is_lanewise (x ∷ xs) (y ∷ ys) e = ap (λ zs. bit_xor x y ∷ zs) (xor_is_lanewise xs ys (omega arith))
