-- Lists of words stay lists of words.
use Rattle.std.proofs.Common.{ℕ, suc, zero, ◌<◌, ◌^◌, ◌-◌, List, [], ◌∷◌, length, get_or, ⊎_elim, arith, lit<}
use Rattle.std.proofs.lemmas.Nat.{xor_lt}
use Rattle.std.proofs.lemmas.List.{get_or_past}
use Rattle.std.proofs.lemmas.Bool.{cases_lt}
use Rattle.lanes.specs.Word.{AreWords}
use Rattle.lanes.specs.Lanes.{ands, xors, nots, picked}
use Rattle.lanes.proofs.WordLemmas.{and_lt}
use Rattle.lanes.proofs.LaneLemmas.{get_or-xors, get_or-ands, get_or-picked, length-picked}

-- from the words within the list alone
pub words_from : (xs : List ℕ) → ((k : ℕ) → k < length xs → get_or xs k 0 < 2 ^ 64) → AreWords xs
words_from xs h = record {
  below = λ k. ⊎_elim (λ i. h k i) (λ i. rw (get_or_past xs k 0 i) (lit< tt)) (cases_lt k (length xs));
}

pub words_of_xors : (xs ys : List ℕ) → AreWords xs → AreWords ys → AreWords (xors xs ys)
words_of_xors xs ys a b = record {
  below = λ k. rw (get_or-xors xs ys k) (xor_lt 64 (get_or xs k 0) (get_or ys k 0) (a.below k) (b.below k));
}

pub words_of_ands : (xs ys : List ℕ) → AreWords xs → AreWords (ands xs ys)
words_of_ands xs ys a = record {
  below = λ k. rw (get_or-ands xs ys k) (and_lt 64 (get_or xs k 0) (get_or ys k 0) (a.below k));
}

-- past its end a list of nots has 0, so it is shown by the list's own words
pub words_of_nots : (xs : List ℕ) → AreWords xs → AreWords (nots xs)
words_of_nots [] a = a
words_of_nots (x ∷ xs) a = record { below = not_at x xs a } where
  not_at : (x : ℕ) (xs : List ℕ) → AreWords (x ∷ xs) → (k : ℕ) → get_or (nots (x ∷ xs)) k 0 < 2 ^ 64
  not_at x xs a zero = xor_lt 64 x (2 ^ 64 - 1) (a.below 0) (lit< tt)
  not_at x [] a (suc k) = lit< tt
  not_at x (y ∷ ys) a (suc k) = not_at y ys (record { below = λ i. a.below (suc i) }) k

pub words_of_picked : (ps xs : List ℕ) → AreWords xs → AreWords (picked ps xs)
words_of_picked ps xs a =
    words_from (picked ps xs)
    (λ k h. let within : k < length ps = omega (arith, length-picked ps xs) in rw (get_or-picked ps xs k within) (a.below (get_or ps k 0)))
