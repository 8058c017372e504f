-- Draws behind some draws.
use Rattle.std.proofs.Common.{◌≡◌, ℕ, zero, suc, ◌+◌, List, [], ◌∷◌, drop, refl, ◌∙◌, ap, arith}
use Rattle.std.specs.Prelude.{slice_get, option_and_then}
use Rattle.tapes.specs.declared.draw.Draw.{Draw}
use Rattle.tapes.specs.declared.draw.Draw.TheVariants.{Word, Order}
use Rattle.tapes.specs.Reading.{order_of}
use Rattle.joint_machine.specs.Left.{first_order}

pub dropped_on : (xs : List Draw) (k n : ℕ) → drop (k + n) xs ≡ drop n (drop k xs)
dropped_on xs zero n = let e : 0 + n ≡ n = omega arith in ap (λ k. drop k xs) e
dropped_on [] (suc k) zero = let e : suc k + 0 ≡ suc k = omega arith in ap (λ k. drop k []) e
dropped_on [] (suc k) (suc n) = let e : suc k + suc n ≡ suc (suc (k + n)) = omega arith in ap (λ k. drop k []) e
dropped_on (x ∷ xs) (suc k) n = let e : suc k + n ≡ suc (k + n) = omega arith in ap (λ k. drop k (x ∷ xs)) e ∙ dropped_on xs k n

pub order_is_first : (xs : List Draw) (k : ℕ) → first_order (drop k xs) ≡ option_and_then order_of (slice_get xs k)
order_is_first [] zero = refl
order_is_first [] (suc k) = refl
order_is_first (Word w ∷ xs) zero = refl
order_is_first (Order o ∷ xs) zero = refl
order_is_first (x ∷ xs) (suc k) = order_is_first xs k
