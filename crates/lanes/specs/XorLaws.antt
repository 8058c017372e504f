-- What goes through the xor of two lists of words, and how xor, and and not go together.
use Rattle.std.specs.Prelude.{◌≡◌, ◌≤◌, ◌<◌, ℕ, List, ◌++◌, bit_and, bit_xor, length, take, drop, replicate, slice_index}
use Rattle.lanes.specs.Lanes.{ands, lanewise, lanewise1, nots, picked, xors}
use Rattle.lanes.specs.Shifts.{shifted_left, shifted_right, spread_word}

-- a function of words goes through xor
abbrev pub GoesThroughXor : (ℕ → ℕ) → Type 0
GoesThroughXor f = (xs ys : List ℕ) → lanewise1 f (xors xs ys) ≡ xors (lanewise1 f xs) (lanewise1 f ys)

-- shifts, the and with one word and the spread of bit 0 go through xor
pub record XorGoesThrough : Type 0 where
  pub left : (by : ℕ) → GoesThroughXor (shifted_left by)
  pub right : (by : ℕ) → GoesThroughXor (shifted_right by)
  pub mask : (word : ℕ) → GoesThroughXor (λ x. bit_and x word)
  pub spread : GoesThroughXor spread_word

-- xor lane by lane is the padded xor where both lists are of one length
abbrev pub XorIsLanewise : Type 0
XorIsLanewise = (xs ys : List ℕ) → length xs ≡ length ys → lanewise bit_xor xs ys ≡ xors xs ys

-- zeros, no more than there are words, change nothing; and a list with itself gives zeros
pub record XorOfZeros : Type 0 where
  pub zeros : (xs : List ℕ) (n : ℕ) → n ≤ length xs → xors xs (replicate n 0) ≡ xs
  pub itself : (xs : List ℕ) → xors xs xs ≡ replicate (length xs) 0

-- xor of parts of lists: of lists one behind the other, of the first words and of those behind them
pub record XorOfParts : Type 0 where
  pub appended : (xs ys us vs : List ℕ) → length xs ≡ length us → xors (xs ++ ys) (us ++ vs) ≡ xors xs us ++ xors ys vs
  pub first : (n : ℕ) (xs ys : List ℕ) → take n (xors xs ys) ≡ xors (take n xs) (take n ys)
  pub behind : (n : ℕ) (xs ys : List ℕ) → drop n (xors xs ys) ≡ xors (drop n xs) (drop n ys)

-- and commutes and associates, and not is undone by not
pub record AndsAndNots : Type 0 where
  pub commutes : (xs ys : List ℕ) → ands xs ys ≡ ands ys xs
  pub associates : (xs ys zs : List ℕ) → ands (ands xs ys) zs ≡ ands xs (ands ys zs)
  pub twice : (xs : List ℕ) → nots (nots xs) ≡ xs

-- picks of several places are appended, and a pick within a list doesn't see what follows it
pub record PicksOfParts : Type 0 where
  pub appended : (ps qs xs : List ℕ) → picked (ps ++ qs) xs ≡ picked ps xs ++ picked qs xs
  pub within : (ps xs ys : List ℕ) → ((k : ℕ) → k < length ps → slice_index ps k < length xs) → picked ps (xs ++ ys) ≡ picked ps xs
