-- Slots beside the lengths that they should have.
use Rattle.std.proofs.Common.{◌≡◌, ℕ, zero, suc, ◌+◌, ◌<◌, true, false, List, [], ◌∷◌, length, map, take, subst, ◌∙◌, ap, arith}
use Rattle.std.specs.Prelude.{slice_get, slice_index, slice_index_or}
use Rattle.std.proofs.lemmas.Bool.{eqb-true}
use Rattle.std.specs.List.{AllByRecursion}
use Rattle.lanes.specs.Word.{AreWords}
use Rattle.party_core.specs.Calls.{is_of}

apart : false ≡ true → ⊥
apart h = cc

head_is : (a b : ℕ) (xs ys : List ℕ) → a ∷ xs ≡ b ∷ ys → a ≡ b
head_is a b xs ys e = cc

tail_is : (a b : ℕ) (xs ys : List ℕ) → a ∷ xs ≡ b ∷ ys → xs ≡ ys
tail_is a b xs ys e = cc

fits_suc : (ns : List ℕ) (xs : List (List ℕ)) (s : ℕ) → s < length ns → is_of (slice_index ns s) (slice_get xs s) ≡ true → map length (take s xs) ≡ take s ns
    → map length (take (suc s) xs) ≡ take (suc s) ns
fits_suc [] xs s lt i e = absurd (omega arith)
fits_suc (n ∷ ns) [] zero lt i e = absurd (apart i)
fits_suc (n ∷ ns) (x ∷ xs) zero lt i e = ap (λ k. k ∷ []) (eqb-true (length x) n i)
fits_suc (n ∷ ns) [] (suc s) lt i e = absurd (apart i)
fits_suc (n ∷ ns) (x ∷ xs) (suc s) lt i e =
    let a = head_is (length x) n (map length (take s xs)) (take s ns) e in
    let b = tail_is (length x) n (map length (take s xs)) (take s ns) e in
    ap (λ k. k ∷ map length (take (suc s) xs)) a ∙ ap (λ t. n ∷ t) (fits_suc ns xs s (omega arith) i b)

pub fits_more : (ns : List ℕ) (xs : List (List ℕ)) (s : ℕ) → s < length ns → is_of (slice_index ns s) (slice_get xs s) ≡ true → map length (take s xs) ≡ take s ns
    → map length (take (s + 1) xs) ≡ take (s + 1) ns
fits_more ns xs s lt i e =
    let f : suc s ≡ s + 1 = omega arith in
    subst (λ k. map length (take k xs) ≡ take k ns) f (fits_suc ns xs s lt i e)

all_suc : (xs : List (List ℕ)) (s : ℕ) → AllByRecursion AreWords (take s xs) → AreWords (slice_index_or xs s []) → AllByRecursion AreWords (take (suc s) xs)
all_suc [] zero h i = tt
all_suc [] (suc s) h i = tt
all_suc (x ∷ xs) zero h i = (i, tt)
all_suc (x ∷ xs) (suc s) h i = (h.0, all_suc xs s h.1 i)

pub all_more : (xs : List (List ℕ)) (s : ℕ) → AllByRecursion AreWords (take s xs) → AreWords (slice_index_or xs s []) → AllByRecursion AreWords (take (s + 1) xs)
all_more xs s h i =
    let f : suc s ≡ s + 1 = omega arith in
    subst (λ k. AllByRecursion AreWords (take k xs)) f (all_suc xs s h i)
