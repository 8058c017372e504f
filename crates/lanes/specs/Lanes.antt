-- Functions on lists of words, lane by lane.
use Rattle.std.specs.Prelude.{ℕ, List, [], ◌∷◌, map, bit_xor, bit_and, slice_index}
use Rattle.lanes.specs.Word.{word_not}

-- a function of two words in each lane, as far as both lists go
abbrev pub lanewise : (ℕ → ℕ → ℕ) → List ℕ → List ℕ → List ℕ
lanewise f [] ys = []
lanewise f (x ∷ xs) [] = []
lanewise f (x ∷ xs) (y ∷ ys) = f x y ∷ lanewise f xs ys

-- a function of the word in each lane
abbrev pub lanewise1 : (ℕ → ℕ) → List ℕ → List ℕ
lanewise1 f xs = map f xs

-- and in each lane
abbrev pub ands : List ℕ → List ℕ → List ℕ
ands xs ys = lanewise bit_and xs ys

-- xor in each lane, the shorter list padded with zeros
abbrev pub xors : List ℕ → List ℕ → List ℕ
xors [] ys = ys
xors (x ∷ xs) [] = x ∷ xs
xors (x ∷ xs) (y ∷ ys) = bit_xor x y ∷ xors xs ys

-- not in each lane
abbrev pub nots : List ℕ → List ℕ
nots xs = lanewise1 word_not xs

-- one party's part of a shared and, in each lane
abbrev pub crosses : List ℕ → List ℕ → List ℕ → List ℕ → List ℕ
crosses xs xs' ys ys' = xors (xors (ands xs ys) (ands xs ys')) (ands xs' ys)

-- the words at these places, 0 where there is none
abbrev pub picked : List ℕ → List ℕ → List ℕ
picked places xs = map (λ p. slice_index xs p) places
