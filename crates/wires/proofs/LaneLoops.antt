-- One lane more of a lane-wise operation and of a pick.
use Rattle.std.proofs.Common.{◌≡◌, ℕ, zero, suc, ◌+◌, ◌<◌, List, [], ◌∷◌, ◌++◌, length, take, get_or, refl, ap, ◌∙◌, add-one, arith}
use Rattle.std.proofs.lemmas.List.{get_or-map, length-map, take_all, take_more}
use Rattle.lanes.specs.Lanes.{lanewise, picked}

more_lanes : (f : ℕ → ℕ → ℕ) (xs ys : List ℕ) (i : ℕ) → i < length xs → i < length ys
    → lanewise f (take (suc i) xs) (take (suc i) ys) ≡ lanewise f (take i xs) (take i ys) ++ f (get_or xs i 0) (get_or ys i 0) ∷ []
more_lanes f [] ys i left right = absurd (omega arith)
more_lanes f (x ∷ xs) [] i left right = absurd (omega arith)
more_lanes f (x ∷ xs) (y ∷ ys) zero left right = refl
more_lanes f (x ∷ xs) (y ∷ ys) (suc i) left right = ap (λ rest. f x y ∷ rest) (more_lanes f xs ys i (omega arith) (omega arith))

pub lanewise_more : (f : ℕ → ℕ → ℕ) (xs ys : List ℕ) (i : ℕ) → i < length xs → i < length ys
    → lanewise f (take (i + 1) xs) (take (i + 1) ys) ≡ lanewise f (take i xs) (take i ys) ++ f (get_or xs i 0) (get_or ys i 0) ∷ []
lanewise_more f xs ys i left right = rw add-one (more_lanes f xs ys i left right)

pub picked_more : (ps xs : List ℕ) (i : ℕ) → i < length ps → take (i + 1) (picked ps xs) ≡ take i (picked ps xs) ++ get_or xs (get_or ps i 0) 0 ∷ []
picked_more ps xs i h =
    let within : i < length (picked ps xs) = omega (arith, length-map ps (λ p. get_or xs p 0)) in
    take_more (picked ps xs) i 0 within ∙ ap (λ n. take i (picked ps xs) ++ n ∷ []) (get_or-map (λ p. get_or xs p 0) ps i 0 0 h)

pub picked_all : (ps xs : List ℕ) (n : ℕ) → n ≡ length ps → take n (picked ps xs) ≡ picked ps xs
picked_all ps xs n h = take_all n (picked ps xs) (omega (arith, length-map ps (λ p. get_or xs p 0)))
