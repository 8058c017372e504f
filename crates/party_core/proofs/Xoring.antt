-- The xor of two lists, word by word and then what is left of one of them.
use Rattle.std.proofs.Common.{◌≡◌, ℕ, zero, suc, ◌+◌, ◌<◌, ◌≤◌, List, [], ◌∷◌, ◌++◌, length, drop, get_or, refl, sym, ap, ◌∙◌, arith}
use Rattle.std.specs.Prelude.{bit_xor, min}
use Rattle.std.proofs.lemmas.List.{append_assoc, append-nil, drop_more}
use Rattle.lanes.specs.Lanes.{xors}

pub xor_more : (xs ys : List ℕ) (i : ℕ) → i < length xs → i < length ys
    → xors (drop i xs) (drop i ys) ≡ bit_xor (get_or xs i 0) (get_or ys i 0) ∷ xors (drop (i + 1) xs) (drop (i + 1) ys)
xor_more xs ys i h k = ap (λ t. xors t (drop i ys)) (drop_more xs i 0 h) ∙ ap (λ t. xors (get_or xs i 0 ∷ drop (i + 1) xs) t) (drop_more ys i 0 k)

pub xor_made : (xs ys made : List ℕ) (i x : ℕ) → i < length xs → i < length ys → x ≡ bit_xor (get_or xs i 0) (get_or ys i 0)
    → xors xs ys ≡ made ++ xors (drop i xs) (drop i ys) → xors xs ys ≡ (made ++ x ∷ []) ++ xors (drop (i + 1) xs) (drop (i + 1) ys)
xor_made xs ys made i x h k e is =
    is ∙ ap (λ t. made ++ t) (xor_more xs ys i h k ∙ ap (λ w. w ∷ xors (drop (i + 1) xs) (drop (i + 1) ys)) (sym e))
    ∙ sym (append_assoc made (x ∷ []) (xors (drop (i + 1) xs) (drop (i + 1) ys)))

xor_none : (xs : List ℕ) → xors xs [] ≡ xs
xor_none [] = refl
xor_none (x ∷ xs) = refl

data Ends (xs ys : List ℕ) : Type 0 where
  first : xs ≡ [] → Ends xs ys
  second : ys ≡ [] → Ends xs ys

-- where one of the lists is at its end
pub xor_rest : (xs ys : List ℕ) (i : ℕ) → min (length xs) (length ys) ≤ i → xors (drop i xs) (drop i ys) ≡ drop i xs ++ drop i ys
xor_rest xs ys i h = by (drop i xs) (drop i ys) (one_ends xs ys i h) where
  one_ends : (xs ys : List ℕ) (i : ℕ) → min (length xs) (length ys) ≤ i → Ends (drop i xs) (drop i ys)
  one_ends [] ys zero h = first refl
  one_ends [] ys (suc i) h = first refl
  one_ends (x ∷ xs) [] zero h = second refl
  one_ends (x ∷ xs) [] (suc i) h = second refl
  one_ends (x ∷ xs) (y ∷ ys) zero h = absurd (omega arith)
  one_ends (x ∷ xs) (y ∷ ys) (suc i) h = one_ends xs ys i (omega arith)

  by : (xs ys : List ℕ) → Ends xs ys → xors xs ys ≡ xs ++ ys
  by xs ys (first e) = ap (λ t. xors t ys) e ∙ sym (ap (λ t. t ++ ys) e)
  by xs ys (second e) = ap (λ t. xors xs t) e ∙ xor_none xs ∙ sym (append-nil xs) ∙ sym (ap (λ t. xs ++ t) e)
