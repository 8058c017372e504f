-- What a register opens as.
use Rattle.std.specs.Prelude.{◌≡◌, ℕ, List}
use Rattle.step_lists.specs.Layout.{Steps}
use Rattle.step_lists.specs.Draws.{ThreeTapes}
use Rattle.step_lists.specs.Open.{SlotWords}
use Rattle.step_lists.specs.Possible.{Possible}
use Rattle.emit.specs.Emit.{opened}

-- first slots as they are
abbrev pub over_slots : SlotWords → SlotWords
over_slots slots = slots

-- in every environment of a list a register has this value of the registers
abbrev pub OpensAs : {T : Type 0} → (T → List (List ℕ) → List (List ℕ)) → Steps T → ℕ → ((ℕ → List ℕ) → List ℕ) → Type 0
OpensAs answer list r value = (slots : SlotWords) (ds : ThreeTapes) → Possible answer list slots ds → opened answer list slots ds r ≡ value (opened answer list slots ds)
