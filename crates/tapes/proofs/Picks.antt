-- Picks of words: their length, their words, and a pick of a pick.
use Rattle.std.proofs.Common.{◌≡◌, ℕ, suc, ◌<◌, List, [], ◌∷◌, length, get_or, take, refl, arith}
use Rattle.std.proofs.lemmas.List.{get_or-map, length-map, take_all}
use Rattle.lanes.specs.Lanes.{picked}

pub length-picked : (ps xs : List ℕ) → length (picked ps xs) ≡ length ps
length-picked ps xs = length-map ps (λ p. get_or xs p 0)

pub get_or-picked : (ps xs : List ℕ) (k : ℕ) → k < length ps → get_or (picked ps xs) k 0 ≡ get_or xs (get_or ps k 0) 0
get_or-picked ps xs k h = get_or-map (λ p. get_or xs p 0) ps k 0 0 h

-- a pick of a pick, where each of its places is in the first
pub picked-picked : (qs ps xs : List ℕ) → ((k : ℕ) → k < length qs → get_or qs k 0 < length ps) → picked qs (picked ps xs) ≡ picked (picked qs ps) xs
picked-picked [] ps xs h = refl
picked-picked (q ∷ qs) ps xs h =
    rw (get_or-picked ps xs q (h 0 (omega arith)), picked-picked qs ps xs (λ k i. h (suc k) (omega arith))) refl

pub picked_all : (ps xs : List ℕ) (n : ℕ) → n ≡ length ps → take n (picked ps xs) ≡ picked ps xs
picked_all ps xs n h = take_all n (picked ps xs) (omega (arith, length-picked ps xs))
