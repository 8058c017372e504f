-- The three parts of a shared and xor to the and of the shared words.
use Rattle.std.proofs.Common.{◌≡◌, ℕ, ◌+◌, ◌<◌, min, max, List, [], ◌∷◌, ◌++◌, length, take, get_or, refl, sym, ◌∙◌, ap, arith}
use Rattle.std.specs.Prelude.{bit_xor, bit_and}
use Rattle.lanes.specs.Word.{cross}
use Rattle.lanes.specs.Lanes.{ands, xors, crosses}
use Rattle.lanes.proofs.WordLemmas.{and_xor, xor_and}
use Rattle.lanes.proofs.XorSolver.{atom, ◌⊕◌, solve}
use Rattle.lanes.proofs.LaneLemmas.{length-xors, length-ands, get_or-xors, get_or-ands, xors_comm, xors_assoc, ands_xors, xors_ands}
use Rattle.lanes.proofs.Regroup.{Monoid, regroup}
use Rattle.std.proofs.lemmas.List.{take_more, take_all}

-- the nine products of two shared words
products : (a b c x y z : ℕ) → bit_and (bit_xor (bit_xor a b) c) (bit_xor (bit_xor x y) z)
    ≡ bit_xor
    (bit_xor (bit_xor (bit_xor (bit_and a x) (bit_and a y)) (bit_and a z)) (bit_xor (bit_xor (bit_and b x) (bit_and b y)) (bit_and b z)))
    (bit_xor (bit_xor (bit_and c x) (bit_and c y)) (bit_and c z))
products a b c x y z = simp (xor_and, and_xor)

pub word_parts : (a b c x y z : ℕ)
    → bit_xor (bit_xor (cross a b x y) (cross b c y z)) (cross c a z x) ≡ bit_and (bit_xor (bit_xor a b) c) (bit_xor (bit_xor x y) z)
word_parts a b c x y z =
    solve
    (bit_and a x ∷ bit_and a y ∷ bit_and a z ∷ bit_and b x ∷ bit_and b y ∷ bit_and b z ∷ bit_and c x ∷ bit_and c y ∷ bit_and c z ∷ [])
    ((((atom 0 ⊕ atom 1) ⊕ atom 3) ⊕ ((atom 4 ⊕ atom 5) ⊕ atom 7)) ⊕ ((atom 8 ⊕ atom 6) ⊕ atom 2))
    ((((atom 0 ⊕ atom 1) ⊕ atom 2) ⊕ ((atom 3 ⊕ atom 4) ⊕ atom 5)) ⊕ ((atom 6 ⊕ atom 7) ⊕ atom 8))
    refl
    ∙ sym (products a b c x y z)

pub length-crosses : (xs xs' ys ys' : List ℕ)
    → length (crosses xs xs' ys ys') ≡ max (max (min (length xs) (length ys)) (min (length xs) (length ys'))) (min (length xs') (length ys))
length-crosses xs xs' ys ys' = simp (length-xors, length-ands)

pub get_or-crosses : (xs xs' ys ys' : List ℕ) (k : ℕ)
    → get_or (crosses xs xs' ys ys') k 0 ≡ cross (get_or xs k 0) (get_or xs' k 0) (get_or ys k 0) (get_or ys' k 0)
get_or-crosses xs xs' ys ys' k = simp (get_or-xors, get_or-ands)

-- xor of lists as a monoid
abbrev pub joined_xors : Monoid (List ℕ)
joined_xors =
    record { op = xors; unit = []; comm = xors_comm; assoc = xors_assoc; left = λ xs. refl }

-- the parts of the three parties, at any lengths
pub parts : (us vs ws xs ys zs : List ℕ)
    → xors (xors (crosses us vs xs ys) (crosses vs ws ys zs)) (crosses ws us zs xs) ≡ ands (xors (xors us vs) ws) (xors (xors xs ys) zs)
parts us vs ws xs ys zs =
    rw (
      ands_xors (xors (xors us vs) ws) (xors xs ys) zs,
      ands_xors (xors (xors us vs) ws) xs ys,
      xors_ands (xors us vs) ws xs,
      xors_ands us vs xs,
      xors_ands (xors us vs) ws ys,
      xors_ands us vs ys,
      xors_ands (xors us vs) ws zs,
      xors_ands us vs zs,
    )
    (regroup joined_xors
    (ands us xs ∷ ands us ys ∷ ands us zs ∷ ands vs xs ∷ ands vs ys ∷ ands vs zs ∷ ands ws xs ∷ ands ws ys ∷ ands ws zs ∷ [])
    ((((atom 0 ⊕ atom 1) ⊕ atom 3) ⊕ ((atom 4 ⊕ atom 5) ⊕ atom 7)) ⊕ ((atom 8 ⊕ atom 6) ⊕ atom 2))
    ((((atom 0 ⊕ atom 3) ⊕ atom 6) ⊕ ((atom 1 ⊕ atom 4) ⊕ atom 7)) ⊕ ((atom 2 ⊕ atom 5) ⊕ atom 8))
    refl)

-- one more lane, and all lanes, of lists of one length
pub crosses_more : (xs xs' ys ys' : List ℕ) (i : ℕ) → length xs' ≡ length xs → length ys ≡ length xs → length ys' ≡ length xs → i < length xs
    → take (i + 1) (crosses xs xs' ys ys') ≡ take i (crosses xs xs' ys ys') ++ cross (get_or xs i 0) (get_or xs' i 0) (get_or ys i 0) (get_or ys' i 0) ∷ []
crosses_more xs xs' ys ys' i a b c h =
    let within : i < length (crosses xs xs' ys ys') = omega (arith, length-crosses xs xs' ys ys') in
    take_more (crosses xs xs' ys ys') i 0 within ∙ ap (λ n. take i (crosses xs xs' ys ys') ++ n ∷ []) (get_or-crosses xs xs' ys ys' i)

pub crosses_all : (xs xs' ys ys' : List ℕ) (n : ℕ) → length xs' ≡ length xs → length ys ≡ length xs → length ys' ≡ length xs → n ≡ length xs
    → take n (crosses xs xs' ys ys') ≡ crosses xs xs' ys ys'
crosses_all xs xs' ys ys' n a b c h =
    take_all n (crosses xs xs' ys ys') (omega (arith, length-crosses xs xs' ys ys'))
