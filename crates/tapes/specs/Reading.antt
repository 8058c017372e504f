-- A reader of a tape.
use Rattle.std.specs.Prelude.{ℕ, zero, suc, ◌+◌, Bool, true, false, List, [], ◌∷◌, Option, Some, None, drop, slice_get, option_and_then}
use Rattle.std.specs.Option.{option_map}
use Rattle.tapes.specs.declared.draw.Draw.{Draw}
use Rattle.tapes.specs.declared.draw.Draw.TheVariants.{Word, Order}

-- the draws of a tape, and the place of the next one
pub record Reading : Type 0 where
  pub draws : List Draw
  pub place : ℕ

-- a draw's word, and its order
abbrev pub word_of : Draw → Option ℕ
word_of (Word w) = Some w
word_of (Order o) = None

abbrev pub order_of : Draw → Option (List ℕ)
order_of (Word w) = None
order_of (Order o) = Some o

-- the next draw's word, and its order, where it has one
abbrev pub word_at : Reading → Option ℕ
word_at r = option_and_then word_of (slice_get r.draws r.place)

abbrev pub order_at : Reading → Option (List ℕ)
order_at r = option_and_then order_of (slice_get r.draws r.place)

-- the first n draws, where there are so many and all of them are words
unfoldable pub first_words : ℕ → List Draw → Option (List ℕ)
first_words zero draws = Some []
first_words (suc n) [] = None
first_words (suc n) (Word w ∷ draws) = option_map (λ words. w ∷ words) (first_words n draws)
first_words (suc n) (Order o ∷ draws) = None

-- how many words stand before the first order or the end
unfoldable pub leading_words : List Draw → ℕ
leading_words [] = 0
leading_words (Word w ∷ draws) = suc (leading_words draws)
leading_words (Order o ∷ draws) = 0

-- the next n draws, where all of them are words
abbrev pub words_at : Reading → ℕ → Option (List ℕ)
words_at r n = first_words n (drop r.place r.draws)

-- one draw on, or the same
abbrev pub moved_past : Reading → Bool → Reading
moved_past r true = record r { place = r.place + 1 }
moved_past r false = r

-- so many draws on, or the same
abbrev pub moved_by : Reading → ℕ → Bool → Reading
moved_by r n true = record r { place = r.place + n }
moved_by r n false = r
