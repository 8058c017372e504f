-- The value of digits grows as it is read.
use Rattle.std.specs.List.{list_all, prefix_len}
use Rattle.std.proofs.Common.{◌≡◌, ℕ, suc, ◌+◌, ◌-◌, ◌*◌, ◌<◌, ◌≤◌, Bool, true, false, cond, take, List, [], ◌∷◌, length, get_or, drop, refl, arith}
use Rattle.std.proofs.lemmas.List.{at_drop_more}
use Rattle.query_tokens.specs.Scan.{value_after}

pub value_after-le : (n : ℕ) (digits : List ℕ) → n ≤ value_after n digits
value_after-le n [] = omega arith
value_after-le n (d ∷ digits) = omega (arith, value_after-le (n * 10 + (d - 48)) digits)

-- one digit more
pub value_after-step : (n i : ℕ) (digits : List ℕ) → i < length digits → value_after n (drop i digits) ≡ value_after (n * 10 + (get_or digits i 0 - 48)) (drop (i + 1) digits)
value_after-step n i digits h = at_drop_more (λ ds. value_after n ds) digits i 0 h

-- what stands before the first that fails passes
pub list_all-front : {X : Type 0} (p : X → Bool) (xs : List X) → list_all p (take (prefix_len p xs) xs) ≡ true
list_all-front p [] = refl
list_all-front p (x ∷ xs) = go (p x) refl (list_all-front p xs)
  where
    go : (b : Bool) → p x ≡ b → list_all p (take (prefix_len p xs) xs) ≡ true → list_all p (take (cond b (1 + prefix_len p xs) 0) (x ∷ xs)) ≡ true
    go false e ih = refl
    go true e ih = let k : 1 + prefix_len p xs ≡ suc (prefix_len p xs) = omega arith in rw (k, e) ih
