-- One more place, or one more column, of what the loops build.
use Rattle.std.proofs.Common.{◌≡◌, ℕ, ◌+◌, Bool, true, false, cond, [], ◌∷◌, ◌++◌, map, refl, ◌∙◌, ap}
use Rattle.std.specs.List.{filter, range_with_len}
use Rattle.std.proofs.lemmas.List.{map-append}
use Rattle.std.proofs.lemmas.List.Elements.{filter-append}
use Rattle.padded.proofs.Elements.{range_more}

-- a function of each number of a range
pub map_more_numbers : {X : Type 0} (f : ℕ → X) (n : ℕ) → map f (range_with_len 0 (n + 1)) ≡ map f (range_with_len 0 n) ++ f n ∷ []
map_more_numbers f n = ap (map f) (range_more n) ∙ map-append f (range_with_len 0 n) (n ∷ [])

-- the same of those numbers that pass a test
pub kept_more_numbers : {X : Type 0} (p : ℕ → Bool) (f : ℕ → X) (n : ℕ) → map f (filter p (range_with_len 0 (n + 1))) ≡ map f (filter p (range_with_len 0 n)) ++ cond (p n) (f n ∷ []) []
kept_more_numbers p f n =
    ap (λ l. map f (filter p l)) (range_more n) ∙ ap (map f) (filter-append p (range_with_len 0 n) (n ∷ [])) ∙ map-append f (filter p (range_with_len 0 n)) (filter p (n ∷ []))
    ∙ ap (λ l. map f (filter p (range_with_len 0 n)) ++ l) (by (p n))
  where
    by : (b : Bool) → map f (cond b (n ∷ []) []) ≡ cond b (f n ∷ []) []
    by true = refl
    by false = refl
