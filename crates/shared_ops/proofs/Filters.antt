-- Filters of lists, and what holds of each word of a mapped list.
use Rattle.std.proofs.Common.{◌≡◌, ℕ, zero, suc, ◌≤◌, Bool, true, false, cond, List, [], ◌∷◌, map, length, get_or, refl, ap, arith}
use Rattle.std.specs.Prelude.{All}
use Rattle.std.specs.List.{filter}
use Rattle.std.proofs.lemmas.List.Elements.{All-head, All-tail}

-- what holds of each word of a mapped list, and of 0 past its end
pub each_of_map : {X : Type 0} (P : ℕ → Type 0) (f : X → ℕ) (xs : List X) → P 0 → All (λ x. P (f x)) xs → (k : ℕ) → P (get_or (map f xs) k 0)
each_of_map P f [] none all k = none
each_of_map P f (x ∷ xs) none all zero = All-head (λ z. P (f z)) x xs all
each_of_map P f (x ∷ xs) none all (suc k) = each_of_map P f xs none (All-tail (λ z. P (f z)) x xs all) k

-- a filter keeps no more
pub length_filter : {X : Type 0} (p : X → Bool) (xs : List X) → length (filter p xs) ≤ length xs
length_filter p [] = omega arith
length_filter p (x ∷ xs) = by (p x) (length_filter p xs)
  where
    by : (b : Bool) → length (filter p xs) ≤ length xs → length (cond b (x ∷ filter p xs) (filter p xs)) ≤ suc (length xs)
    by true h = omega arith
    by false h = omega arith

-- tests that agree on each element of a list
pub filter_agree_on : {X : Type 0} (p q : X → Bool) (xs : List X) → All (λ x. p x ≡ q x) xs → filter p xs ≡ filter q xs
filter_agree_on p q [] all = refl
filter_agree_on p q (x ∷ xs) all = λ i. cond (All-head (λ z. p z ≡ q z) x xs all i) (x ∷ filter_agree_on p q xs (All-tail (λ z. p z ≡ q z) x xs all) i) (filter_agree_on p q xs (All-tail (λ z. p z ≡ q z) x xs all) i)

-- one filter after another is one filter
pub filter_filter : {X : Type 0} (p q : X → Bool) (xs : List X) → filter p (filter q xs) ≡ filter (λ x. cond (q x) (p x) false) xs
filter_filter p q [] = refl
filter_filter p q (x ∷ xs) = by (q x) (p x) refl (filter_filter p q xs)
  where
    by : (b c : Bool) → p x ≡ c → filter p (filter q xs) ≡ filter (λ z. cond (q z) (p z) false) xs
        → filter p (cond b (x ∷ filter q xs) (filter q xs)) ≡ cond (cond b (p x) false) (x ∷ filter (λ z. cond (q z) (p z) false) xs) (filter (λ z. cond (q z) (p z) false) xs)
    by true true f rest = rw f (ap (λ l. x ∷ l) rest)
    by true false f rest = rw f rest
    by false c f rest = rest
