-- The algebra of xor and and on numbers.
use Rattle.std.proofs.Common.{◌≡◌, ℕ, ◌+◌, ◌%◌, ◌^◌, ◌-◌, ◌<◌, sym, ◌∙◌, ap, min, arith}
use Rattle.std.specs.Prelude.{bit_xor, bit_and}
use Rattle.std.specs.Int.{bit_at}
use Rattle.std.proofs.lemmas.Nat.{xor_comm, and_comm, and_le_l}
use Rattle.std.proofs.lemmas.Nat.Bits.{bit_at_and, bit_at_xor, bit_at-lt, same_from_bits}
use Rattle.std.specs.Int.Bits.{xor_assoc, xor_self, xor_zero_l, xor_zero_r}
use Rattle.lanes.specs.Word.{word_not}

-- one digit of the distributive law
digit : (x y z : ℕ) → x < 2 → y < 2 → z < 2 → min x ((y + z) % 2) ≡ (min x y + min x z) % 2
digit x y z a b c = omega arith

-- and distributes over xor, on the left and on the right
pub and_xor : (a b c : ℕ) → bit_and a (bit_xor b c) ≡ bit_xor (bit_and a b) (bit_and a c)
and_xor a b c =
    same_from_bits (bit_and a (bit_xor b c)) (bit_xor (bit_and a b) (bit_and a c))
    (λ i. simp (bit_at_and, bit_at_xor)
    (digit (bit_at a i) (bit_at b i) (bit_at c i) (bit_at-lt a i) (bit_at-lt b i) (bit_at-lt c i)))

pub xor_and : (a b c : ℕ) → bit_and (bit_xor a b) c ≡ bit_xor (bit_and a c) (bit_and b c)
xor_and a b c = rw (and_comm (bit_xor a b) c, and_comm a c, and_comm b c) (and_xor c a b)

-- a word that is xored in twice
pub xor_twice : (a b : ℕ) → bit_xor a (bit_xor a b) ≡ b
xor_twice a b = sym (xor_assoc a a b) ∙ ap (λ n. bit_xor n b) (xor_self a) ∙ xor_zero_l b

-- equal words are those whose xor is 0
pub same_from_xor : (a b : ℕ) → bit_xor a b ≡ 0 → a ≡ b
same_from_xor a b e = sym (xor_zero_r a) ∙ ap (λ n. bit_xor a n) (sym e) ∙ xor_twice a b

pub and_lt : (k a b : ℕ) → a < 2 ^ k → bit_and a b < 2 ^ k
and_lt k a b h = omega (arith, and_le_l a b)

-- not of one share is not of the xor
pub not_xor : (a b : ℕ) → bit_xor (word_not a) b ≡ word_not (bit_xor a b)
not_xor a b =
    xor_assoc a (2 ^ 64 - 1) b ∙ ap (λ n. bit_xor a n) (xor_comm (2 ^ 64 - 1) b) ∙ sym (xor_assoc a b (2 ^ 64 - 1))

pub not_not : (a : ℕ) → word_not (word_not a) ≡ a
not_not a = xor_assoc a (2 ^ 64 - 1) (2 ^ 64 - 1) ∙ xor_zero_r a
