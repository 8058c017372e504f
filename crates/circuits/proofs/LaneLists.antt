-- How long lane-wise lists are, and which word stands in each lane.
use Rattle.std.proofs.Common.{◌≡◌, ℕ, zero, suc, ◌<◌, ◌⊎◌, inl, inr, min, List, [], ◌∷◌, length, get_or, refl, arith}
use Rattle.std.proofs.lemmas.List.{get_or-map, length-map}
use Rattle.lanes.specs.Lanes.{lanewise, picked}

pub length-lanewise : (f : ℕ → ℕ → ℕ) (xs ys : List ℕ) → length (lanewise f xs ys) ≡ min (length xs) (length ys)
length-lanewise f [] ys = omega arith
length-lanewise f (x ∷ xs) [] = omega arith
length-lanewise f (x ∷ xs) (y ∷ ys) = omega (arith, length-lanewise f xs ys)

pub get_or-lanewise : (f : ℕ → ℕ → ℕ) (xs ys : List ℕ) (k : ℕ) → k < length xs → k < length ys → get_or (lanewise f xs ys) k 0 ≡ f (get_or xs k 0) (get_or ys k 0)
get_or-lanewise f [] ys k left right = absurd (omega arith)
get_or-lanewise f (x ∷ xs) [] k left right = absurd (omega arith)
get_or-lanewise f (x ∷ xs) (y ∷ ys) zero left right = refl
get_or-lanewise f (x ∷ xs) (y ∷ ys) (suc k) left right = get_or-lanewise f xs ys k (omega arith) (omega arith)

pub length-picked : (ps xs : List ℕ) → length (picked ps xs) ≡ length ps
length-picked ps xs = length-map ps (λ p. get_or xs p 0)

pub get_or-picked : (ps xs : List ℕ) (k : ℕ) → k < length ps → get_or (picked ps xs) k 0 ≡ get_or xs (get_or ps k 0) 0
get_or-picked ps xs k inside = get_or-map (λ p. get_or xs p 0) ps k 0 0 inside

-- a bit is 0 or 1
pub bit_cases : (bit : ℕ) → bit < 2 → (bit ≡ 0) ⊎ (bit ≡ 1)
bit_cases zero below = inl refl
bit_cases (suc zero) below = inr refl
bit_cases (suc (suc bit)) below = absurd (omega arith)
