-- Draws that are of the needed sort.
use Rattle.std.specs.Prelude.{◌≡◌, ℕ, ◌<◌, ◌^◌, ◌*◌, ⊤, List, [], ◌∷◌, length}
use Rattle.tapes.specs.declared.draw.Need.{Need}
use Rattle.tapes.specs.declared.draw.Need.TheVariants.{Word as NeedsWord, OrderOf}
use Rattle.tapes.specs.declared.draw.Draw.{Draw}
use Rattle.tapes.specs.declared.draw.Draw.TheVariants.{Word, Order}
use Rattle.tapes.specs.declared.draw.Schedule.{Schedule}
use Rattle.tapes.specs.declared.tape.Tapes.{Tapes}
use Rattle.tapes.specs.Order.{IsShortOrder}

-- a word below 2 ^ 64, or an order of so many items
abbrev pub Meets : Need → Draw → Type 0
Meets NeedsWord (Word w) = w < 2 ^ 64
Meets NeedsWord (Order o) = ⊥
Meets (OrderOf n) (Word w) = ⊥
Meets (OrderOf n) (Order o) = IsShortOrder o × (length o ≡ n)

-- as many draws as needs, each of the needed sort
abbrev pub FitsNeeds : List Need → List Draw → Type 0
FitsNeeds [] [] = ⊤
FitsNeeds [] (d ∷ ds) = ⊥
FitsNeeds (n ∷ ns) [] = ⊥
FitsNeeds (n ∷ ns) (d ∷ ds) = Meets n d × FitsNeeds ns ds

-- how many bytes such a draw takes
abbrev pub width_of : Need → ℕ
width_of NeedsWord = 8
width_of (OrderOf n) = 4 * n

-- each of the three tapes has the draws that the schedule needs of it
pub record FitsSchedule (schedule : Schedule) (tapes : Tapes) : Type 0 where
  pub first : FitsNeeds schedule.first tapes.first
  pub second : FitsNeeds schedule.second tapes.second
  pub third : FitsNeeds schedule.third tapes.third
