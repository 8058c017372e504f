-- Tapes from a seed.
use Rattle.std.specs.Prelude.{◌≡◌, ◌⊎◌, ℕ, suc, ◌+◌, ◌*◌, ◌<◌, ◌^◌, ⊤, List, [], ◌∷◌, ◌++◌, length, map, replicate, slice_index}
use Rattle.std.specs.Int.{w64, to_be_bytes}
use Rattle.rand_chacha.specs.ChaCha.{word_at, key_of}
use Rattle.tapes.specs.declared.draw.Need.{Need}
use Rattle.tapes.specs.declared.draw.Need.TheVariants.{Word as NeedsWord, OrderOf}
use Rattle.tapes.specs.declared.draw.Draw.{Draw}
use Rattle.tapes.specs.declared.draw.Draw.TheVariants.{Word, Order}
use Rattle.tapes.specs.declared.draw.Schedule.{Schedule}
use Rattle.tapes.specs.declared.tape.Tapes.{Tapes}
use Rattle.tapes.specs.Order.{IsOrder, identity_of}

-- the 32 bytes of a key: the seed in 8 bytes, the tape's number in one, another number in 8 bytes, and
-- zeros, with the high byte first in both numbers
abbrev pub key_bytes : ℕ → ℕ → ℕ → List ℕ
key_bytes seed tape number =
    to_be_bytes w64 seed ++ tape ∷ to_be_bytes w64 number ++ replicate 15 0

-- word i of a key: the words 2 i and 2 i + 1 of 32 bits of its ChaCha20 stream number 0, the first as
-- the high half
unfoldable pub key_word : List ℕ → ℕ → ℕ
key_word key i = word_at 10 (key_of key) 0 (2 * i) * 2 ^ 32 + word_at 10 (key_of key) 0 (2 * i + 1)

-- a comes before b: by its word, and by itself where the words are equal
abbrev pub Precedes : (ℕ → ℕ) → ℕ → ℕ → Type 0
Precedes words a b = (words a < words b) ⊎ ((words a ≡ words b) × (a < b))

-- the numbers below a count, sorted by their words and then by themselves
pub record IsSortedByWords (words : ℕ → ℕ) (count : ℕ) (o : List ℕ) : Type 0 where
  pub long : length o ≡ count
  pub order : IsOrder o
  pub rising : (i j : ℕ) → i < j → j < count → Precedes words (slice_index o i) (slice_index o j)

-- each number below a count, after its word
abbrev pub worded : (ℕ → ℕ) → ℕ → List (ℕ × ℕ)
worded words count = map (λ i. (words i, i)) (identity_of count)

-- draw number d of a tape: word d of the tape's key number 0, or the order by the words of its key
-- number d + 1
abbrev pub IsMadeDraw : ℕ → ℕ → ℕ → Need → Draw → Type 0
IsMadeDraw seed tape d NeedsWord (Word w) = w ≡ key_word (key_bytes seed tape 0) d
IsMadeDraw seed tape d NeedsWord (Order o) = ⊥
IsMadeDraw seed tape d (OrderOf count) (Word w) = ⊥
IsMadeDraw seed tape d (OrderOf count) (Order o) =
    IsSortedByWords (λ i. key_word (key_bytes seed tape (d + 1)) i) count o

-- the draws from number d on
abbrev pub AreMadeFrom : ℕ → ℕ → ℕ → List Need → List Draw → Type 0
AreMadeFrom seed tape d [] [] = ⊤
AreMadeFrom seed tape d [] (x ∷ draws) = ⊥
AreMadeFrom seed tape d (n ∷ needs) [] = ⊥
AreMadeFrom seed tape d (n ∷ needs) (x ∷ draws) =
    IsMadeDraw seed tape d n x × AreMadeFrom seed tape (suc d) needs draws

-- a tape of a seed, for its needs
abbrev pub IsMadeTape : ℕ → ℕ → List Need → List Draw → Type 0
IsMadeTape seed tape needs draws = AreMadeFrom seed tape 0 needs draws

-- the three tapes of a seed, for a schedule
pub record AreMade (schedule : Schedule) (seed : ℕ) (tapes : Tapes) : Type 0 where
  pub first : IsMadeTape seed 1 schedule.first tapes.first
  pub second : IsMadeTape seed 2 schedule.second tapes.second
  pub third : IsMadeTape seed 3 schedule.third tapes.third
