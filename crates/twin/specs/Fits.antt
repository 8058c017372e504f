-- The twin of tapes that fit fits.
use Rattle.std.specs.Prelude.{ℕ, Bool, List}
use Rattle.lanes.specs.declared.party.Party.{Party}
use Rattle.step_lists.specs.declared.step.Shape.{Shape}
use Rattle.step_lists.specs.Layout.{Steps}
use Rattle.step_lists.specs.Draws.{ThreeTapes}
use Rattle.step_lists.specs.Rules.{IsWellFormed}
use Rattle.step_lists.specs.Open.{SlotWords}
use Rattle.step_lists.specs.Possible.{SlotsFit, TapesFit}
use Rattle.step_lists.specs.Twin.{twin_tapes}

-- whatever the slots of the two worlds are
abbrev pub TwinFits : {T : Type 0} → (T → List Shape → List Shape → Bool) → (T → List (List ℕ) → List (List ℕ)) → Type 0
TwinFits {T} accepts answer =
    (v : Party) (list : Steps T) (one other : SlotWords) (ds : ThreeTapes) → IsWellFormed accepts list
    → SlotsFit list.first one → SlotsFit list.first other → TapesFit list ds → TapesFit list (twin_tapes answer v list one other ds)
