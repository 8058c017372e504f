-- The laws of lane-wise words. None has a premise on lengths unless words cancel.
use Rattle.std.proofs.Common.{◌≡◌, ℕ, suc, zero, ◌+◌, ◌<◌, ◌≤◌, min, max, List, [], ◌∷◌, ◌++◌, length, get_or, replicate, take, drop, set, refl, sym, ◌∙◌, ap, arith}
use Rattle.std.specs.Prelude.{bit_xor, bit_and}
use Rattle.std.proofs.lemmas.List.{ext_get_or, get_or_append_left, append-nil, append_assoc, drop_more, drop_all, take_more, take_all, set_at, get_or_at, length-take-le}
use Rattle.std.proofs.lemmas.Nat.{xor_comm, and_comm, and_assoc}
use Rattle.std.specs.Int.Bits.{xor_assoc, xor_self, xor_zero_l, xor_zero_r, and_zero_r}
use Rattle.lanes.specs.Lanes.{lanewise, ands, xors, nots, picked}
use Rattle.lanes.proofs.WordLemmas.{and_xor, not_xor, not_not}

-- two lists of one length with the same words are equal
pub same_words : (xs ys : List ℕ) → length xs ≡ length ys → ((k : ℕ) → get_or xs k 0 ≡ get_or ys k 0) → xs ≡ ys
same_words xs ys e h = ext_get_or 0 xs ys e (λ k _. h k)

-- a xor of lists: its length, and its words
pub length-xors : (xs ys : List ℕ) → length (xors xs ys) ≡ max (length xs) (length ys)
length-xors [] ys = omega arith
length-xors (x ∷ xs) [] = omega arith
length-xors (x ∷ xs) (y ∷ ys) = omega (arith, length-xors xs ys)

pub get_or-xors : (xs ys : List ℕ) (k : ℕ) → get_or (xors xs ys) k 0 ≡ bit_xor (get_or xs k 0) (get_or ys k 0)
get_or-xors [] ys k = sym (xor_zero_l (get_or ys k 0))
get_or-xors (x ∷ xs) [] k = sym (xor_zero_r (get_or (x ∷ xs) k 0))
get_or-xors (x ∷ xs) (y ∷ ys) zero = refl
get_or-xors (x ∷ xs) (y ∷ ys) (suc k) = get_or-xors xs ys k

-- a function lane by lane: its length, and its words
pub length-lanewise : (f : ℕ → ℕ → ℕ) (xs ys : List ℕ) → length (lanewise f xs ys) ≡ min (length xs) (length ys)
length-lanewise f [] ys = omega arith
length-lanewise f (x ∷ xs) [] = omega arith
length-lanewise f (x ∷ xs) (y ∷ ys) = omega (arith, length-lanewise f xs ys)

pub get_or-lanewise : (f : ℕ → ℕ → ℕ) (xs ys : List ℕ) (k : ℕ) → k < length xs → k < length ys
    → get_or (lanewise f xs ys) k 0 ≡ f (get_or xs k 0) (get_or ys k 0)
get_or-lanewise f [] ys k h i = absurd (omega arith)
get_or-lanewise f (x ∷ xs) [] k h i = absurd (omega arith)
get_or-lanewise f (x ∷ xs) (y ∷ ys) zero h i = refl
get_or-lanewise f (x ∷ xs) (y ∷ ys) (suc k) h i = get_or-lanewise f xs ys k (omega arith) (omega arith)

-- and is 0 past either list, so its words need no premise
pub get_or-ands : (xs ys : List ℕ) (k : ℕ) → get_or (ands xs ys) k 0 ≡ bit_and (get_or xs k 0) (get_or ys k 0)
get_or-ands [] ys k = sym (and_comm 0 (get_or ys k 0) ∙ and_zero_r (get_or ys k 0))
get_or-ands (x ∷ xs) [] k = sym (and_zero_r (get_or (x ∷ xs) k 0))
get_or-ands (x ∷ xs) (y ∷ ys) zero = refl
get_or-ands (x ∷ xs) (y ∷ ys) (suc k) = get_or-ands xs ys k

pub length-ands : (xs ys : List ℕ) → length (ands xs ys) ≡ min (length xs) (length ys)
length-ands xs ys = length-lanewise bit_and xs ys

-- xor of lists is a commutative monoid, in which each list is its own inverse up to zeros
pub xors_nil : (xs : List ℕ) → xors xs [] ≡ xs
xors_nil [] = refl
xors_nil (x ∷ xs) = refl

pub xors_comm : (xs ys : List ℕ) → xors xs ys ≡ xors ys xs
xors_comm [] ys = sym (xors_nil ys)
xors_comm (x ∷ xs) [] = refl
xors_comm (x ∷ xs) (y ∷ ys) = rw (xor_comm x y, xors_comm xs ys) refl

pub xors_assoc : (xs ys zs : List ℕ) → xors (xors xs ys) zs ≡ xors xs (xors ys zs)
xors_assoc [] ys zs = refl
xors_assoc (x ∷ xs) [] zs = refl
xors_assoc (x ∷ xs) (y ∷ ys) [] = refl
xors_assoc (x ∷ xs) (y ∷ ys) (z ∷ zs) = rw (xor_assoc x y z, xors_assoc xs ys zs) refl

pub xors_self : (xs : List ℕ) → xors xs xs ≡ replicate (length xs) 0
xors_self [] = refl
xors_self (x ∷ xs) = rw (xor_self x, xors_self xs) refl

-- zeros leave a list that is as long as they are
pub xors_zeros : (xs : List ℕ) (n : ℕ) → n ≤ length xs → xors xs (replicate n 0) ≡ xs
xors_zeros [] zero h = refl
xors_zeros [] (suc n) h = absurd (omega arith)
xors_zeros (x ∷ xs) zero h = refl
xors_zeros (x ∷ xs) (suc n) h = rw (xor_zero_r x, xors_zeros xs n (omega arith)) refl

-- a mask that is no longer than the list comes off again
pub xors_twice : (xs ys : List ℕ) → length ys ≤ length xs → xors (xors xs ys) ys ≡ xs
xors_twice xs ys h = xors_assoc xs ys ys ∙ rw (xors_self ys) (xors_zeros xs (length ys) h)

-- and over xor, at any lengths
pub ands_xors : (xs ys zs : List ℕ) → ands xs (xors ys zs) ≡ xors (ands xs ys) (ands xs zs)
ands_xors xs ys zs =
    same_words (ands xs (xors ys zs)) (xors (ands xs ys) (ands xs zs))
    (simp (length-ands, length-xors) (omega arith))
    (λ k. simp (get_or-ands, get_or-xors) (and_xor (get_or xs k 0) (get_or ys k 0) (get_or zs k 0)))

pub ands_comm : (xs ys : List ℕ) → ands xs ys ≡ ands ys xs
ands_comm xs ys =
    same_words (ands xs ys) (ands ys xs) (simp length-ands (omega arith))
    (λ k. simp get_or-ands (and_comm (get_or xs k 0) (get_or ys k 0)))

pub xors_ands : (xs ys zs : List ℕ) → ands (xors xs ys) zs ≡ xors (ands xs zs) (ands ys zs)
xors_ands xs ys zs =
    ands_comm (xors xs ys) zs ∙ ands_xors zs xs ys ∙ rw (ands_comm zs xs, ands_comm zs ys) refl

pub ands_assoc : (xs ys zs : List ℕ) → ands (ands xs ys) zs ≡ ands xs (ands ys zs)
ands_assoc xs ys zs =
    same_words (ands (ands xs ys) zs) (ands xs (ands ys zs)) (simp length-ands (omega arith))
    (λ k. simp get_or-ands (and_assoc (get_or zs k 0) (get_or xs k 0) (get_or ys k 0)))

-- xor of joined lists, where the fronts are of one length
pub xors-append : (xs ys us vs : List ℕ) → length xs ≡ length us → xors (xs ++ ys) (us ++ vs) ≡ xors xs us ++ xors ys vs
xors-append [] ys [] vs e = refl
xors-append [] ys (u ∷ us) vs e = absurd (omega arith)
xors-append (x ∷ xs) ys [] vs e = absurd (omega arith)
xors-append (x ∷ xs) ys (u ∷ us) vs e = rw (xors-append xs ys us vs (omega arith)) refl

pub take-xors : (n : ℕ) (xs ys : List ℕ) → take n (xors xs ys) ≡ xors (take n xs) (take n ys)
take-xors zero xs ys = refl
take-xors (suc n) [] ys = refl
take-xors (suc n) (x ∷ xs) [] = refl
take-xors (suc n) (x ∷ xs) (y ∷ ys) = rw (take-xors n xs ys) refl

pub drop-xors : (n : ℕ) (xs ys : List ℕ) → drop n (xors xs ys) ≡ xors (drop n xs) (drop n ys)
drop-xors zero xs ys = refl
drop-xors (suc n) [] ys = refl
drop-xors (suc n) (x ∷ xs) [] = sym (xors_nil (drop n xs))
drop-xors (suc n) (x ∷ xs) (y ∷ ys) = drop-xors n xs ys

-- not of one share is not of the xor, where that share is no shorter
pub nots_xors : (xs ys : List ℕ) → length ys ≤ length xs → xors (nots xs) ys ≡ nots (xors xs ys)
nots_xors [] [] h = refl
nots_xors [] (y ∷ ys) h = absurd (omega arith)
nots_xors (x ∷ xs) [] h = refl
nots_xors (x ∷ xs) (y ∷ ys) h = rw (not_xor x y, nots_xors xs ys (omega arith)) refl

pub nots_nots : (xs : List ℕ) → nots (nots xs) ≡ xs
nots_nots [] = refl
nots_nots (x ∷ xs) = rw (not_not x, nots_nots xs) refl

-- picking: its length, its words, and that it goes through xor
pub length-picked : (ps xs : List ℕ) → length (picked ps xs) ≡ length ps
length-picked [] xs = refl
length-picked (p ∷ ps) xs = ap suc (length-picked ps xs)

pub get_or-picked : (ps xs : List ℕ) (k : ℕ) → k < length ps → get_or (picked ps xs) k 0 ≡ get_or xs (get_or ps k 0) 0
get_or-picked [] xs k h = absurd (omega arith)
get_or-picked (p ∷ ps) xs zero h = refl
get_or-picked (p ∷ ps) xs (suc k) h = get_or-picked ps xs k (omega arith)

pub picked-xors : (ps xs ys : List ℕ) → picked ps (xors xs ys) ≡ xors (picked ps xs) (picked ps ys)
picked-xors [] xs ys = refl
picked-xors (p ∷ ps) xs ys = rw (get_or-xors xs ys p, picked-xors ps xs ys) refl

-- a pick of a pick, where each of its places is in the first
pub picked-picked : (qs ps xs : List ℕ) → ((k : ℕ) → k < length qs → get_or qs k 0 < length ps) → picked qs (picked ps xs) ≡ picked (picked qs ps) xs
picked-picked [] ps xs h = refl
picked-picked (q ∷ qs) ps xs h =
    rw (get_or-picked ps xs q (h 0 (omega arith)), picked-picked qs ps xs (λ k i. h (suc k) (omega arith))) refl

-- a pick that stays within a list doesn't see what follows it
pub picked-append : (ps xs ys : List ℕ) → ((k : ℕ) → k < length ps → get_or ps k 0 < length xs) → picked ps (xs ++ ys) ≡ picked ps xs
picked-append [] xs ys h = refl
picked-append (p ∷ ps) xs ys h =
    rw (get_or_append_left xs ys 0 p (h 0 (omega arith)), picked-append ps xs ys (λ k i. h (suc k) (omega arith))) refl

pub picked-of_append : (ps qs xs : List ℕ) → picked (ps ++ qs) xs ≡ picked ps xs ++ picked qs xs
picked-of_append [] qs xs = refl
picked-of_append (p ∷ ps) qs xs = rw (picked-of_append ps qs xs) refl

-- one more lane of a xor that is written over its first list
pub xors_more : (xs ys : List ℕ) (i : ℕ) → length ys ≡ length xs → i < length xs
    → set (take i (xors xs ys) ++ drop i xs) i (bit_xor (get_or xs i 0) (get_or ys i 0)) ≡ take (i + 1) (xors xs ys) ++ drop (i + 1) xs
xors_more xs ys i e h =
    let within : i < length (xors xs ys) = omega (arith, length-xors xs ys) in
    let front : length (take i (xors xs ys)) ≡ i = length-take-le i (xors xs ys) (omega arith) in
    rw (drop_more xs i 0 h)
    (set_at (take i (xors xs ys)) (get_or xs i 0) (drop (i + 1) xs) (bit_xor (get_or xs i 0) (get_or ys i 0)) i front
    ∙ rw (take_more (xors xs ys) i 0 within, append_assoc, get_or-xors xs ys i) refl)

-- its item there is still the first list's
pub xors_unread : (xs ys : List ℕ) (i : ℕ) → length ys ≡ length xs → i < length xs
    → get_or (take i (xors xs ys) ++ drop i xs) i 0 ≡ get_or xs i 0
xors_unread xs ys i e h =
    let front : length (take i (xors xs ys)) ≡ i = length-take-le i (xors xs ys) (omega (arith, length-xors xs ys)) in
    rw (drop_more xs i 0 h) (get_or_at (take i (xors xs ys)) (get_or xs i 0) (drop (i + 1) xs) 0 i front)

pub xors_all : (xs ys : List ℕ) (n : ℕ) → length ys ≡ length xs → n ≡ length xs → take n (xors xs ys) ++ drop n xs ≡ xors xs ys
xors_all xs ys n e h =
    rw (drop_all n xs (omega arith), take_all n (xors xs ys) (omega (arith, length-xors xs ys))) (append-nil (xors xs ys))

-- one more picked word, and all of them
pub picked_more : (ps xs : List ℕ) (i : ℕ) → i < length ps → take (i + 1) (picked ps xs) ≡ take i (picked ps xs) ++ get_or xs (get_or ps i 0) 0 ∷ []
picked_more ps xs i h =
    let within : i < length (picked ps xs) = omega (arith, length-picked ps xs) in
    take_more (picked ps xs) i 0 within ∙ ap (λ n. take i (picked ps xs) ++ n ∷ []) (get_or-picked ps xs i h)

pub picked_all : (ps xs : List ℕ) (n : ℕ) → n ≡ length ps → take n (picked ps xs) ≡ picked ps xs
picked_all ps xs n h = take_all n (picked ps xs) (omega (arith, length-picked ps xs))
