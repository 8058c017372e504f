-- The laws of lane-wise words and of the three parties, at all lists of numbers.
use Rattle.std.specs.Prelude.{◌≡◌, ℕ, ◌≤◌, ◌<◌, List, length, slice_index}
use Rattle.lanes.specs.declared.party.Party.{Party}
use Rattle.lanes.specs.declared.three.Three.{Three}
use Rattle.lanes.specs.Lanes.{ands, xors, nots, crosses, picked}
use Rattle.lanes.specs.Party.{next, before}
use Rattle.lanes.specs.Three.{at, put, opened}

abbrev pub XorCommutes : Type 0
XorCommutes = (xs ys : List ℕ) → xors xs ys ≡ xors ys xs

abbrev pub XorAssociates : Type 0
XorAssociates = (xs ys zs : List ℕ) → xors (xors xs ys) zs ≡ xors xs (xors ys zs)

-- a mask that is no longer than the words comes off again
abbrev pub MaskComesOff : Type 0
MaskComesOff = (xs ys : List ℕ) → length ys ≤ length xs → xors (xors xs ys) ys ≡ xs

abbrev pub AndDistributes : Type 0
AndDistributes = (xs ys zs : List ℕ) → ands xs (xors ys zs) ≡ xors (ands xs ys) (ands xs zs)

-- not of one share is not of what the shares stand for
abbrev pub NotOfOneShare : Type 0
NotOfOneShare = (xs ys : List ℕ) → length ys ≤ length xs → xors (nots xs) ys ≡ nots (xors xs ys)

-- picking a xor is the xor of the picks
abbrev pub PickOfXor : Type 0
PickOfXor = (ps xs ys : List ℕ) → picked ps (xors xs ys) ≡ xors (picked ps xs) (picked ps ys)

-- picking from a pick is one pick
abbrev pub PickOfPick : Type 0
PickOfPick =
    (qs ps xs : List ℕ) → ((k : ℕ) → k < length qs → slice_index qs k < length ps) → picked qs (picked ps xs) ≡ picked (picked qs ps) xs

-- what the three parties add to a shared and stands for the and of what is shared
abbrev pub AndOfShares : Type 0
AndOfShares = (s t : Three (List ℕ)) → opened (cross_parts s t) ≡ ands (opened s) (opened t) where
  cross_parts : Three (List ℕ) → Three (List ℕ) → Three (List ℕ)
  cross_parts s t = record {
    first = crosses s.first s.second t.first t.second;
    second = crosses s.second s.third t.second t.third;
    third = crosses s.third s.first t.third t.first;
  }

-- the parties go round
abbrev pub GoRound : Type 0
GoRound = (p : Party) → (before (next p) ≡ p) × (next (before p) ≡ p) × (next (next p) ≡ before p)

-- what was put for a party is its value, and the others' values stay
abbrev pub PutIsAt : Type 0
PutIsAt = (p : Party) (v : ℕ) (x : Three ℕ) → (at p (put p v x) ≡ v) × (at (next p) (put p v x) ≡ at (next p) x) × (at (before p) (put p v x) ≡ at (before p) x)
