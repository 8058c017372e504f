-- What is left behind one element more.
use Rattle.std.proofs.Common.{◌≡◌, ℕ, zero, suc, ◌+◌, List, [], ◌∷◌, map, drop, refl, add-one}
use Rattle.query_text.specs.Reading.{rest_of}

pub map-drop-more : {A B : Type 0} (f : A → B) (n : ℕ) (xs : List A) → map f (drop (n + 1) xs) ≡ rest_of (map f (drop n xs))
map-drop-more {A} f n xs = rw (add-one n) (go n xs)
  where
    go : (n : ℕ) (xs : List A) → map f (drop (suc n) xs) ≡ rest_of (map f (drop n xs))
    go zero [] = refl
    go (suc n) [] = refl
    go zero (x ∷ xs) = refl
    go (suc n) (x ∷ xs) = go n xs
