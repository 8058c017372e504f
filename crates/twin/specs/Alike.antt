-- Where what a viewer is shown, told and flagged is always alike, every view can be explained by the other world.
use Rattle.std.specs.Prelude.{◌≡◌, ℕ, Bool, List}
use Rattle.lanes.specs.declared.party.Party.{Party}
use Rattle.step_lists.specs.declared.step.Shape.{Shape}
use Rattle.step_lists.specs.Layout.{Steps}
use Rattle.step_lists.specs.Draws.{ThreeTapes}
use Rattle.step_lists.specs.Rules.{IsWellFormed}
use Rattle.step_lists.specs.Open.{SlotWords}
use Rattle.step_lists.specs.Possible.{TapesFit}
use Rattle.step_lists.specs.Seen.{AreAlike, seen}
use Rattle.step_lists.specs.Twin.{twin_tapes}
use Rattle.twin.specs.Pairs.{AreWorlds, IsPair}

-- two worlds in which the viewer is shown, told and flagged the same, whatever the tapes are
pub record ShowAlike {T : Type 0} (answer : T → List (List ℕ) → List (List ℕ)) (v : Party) (list : Steps T) (one other : SlotWords) : Type 0 where
  pub worlds : AreWorlds v list one other
  pub alike : (ds es : ThreeTapes) → TapesFit list ds → TapesFit list es → AreAlike (seen answer v list one ds) (seen answer v list other es)

-- then all tapes that fit have a twin that fits, and the viewer can't tell the second world under it from the first
pub record HasTwin {T : Type 0} (answer : T → List (List ℕ) → List (List ℕ)) (v : Party) (list : Steps T) (one other : SlotWords) (ds : ThreeTapes) : Type 0 where
  pub fits : TapesFit list (twin_tapes answer v list one other ds)
  pub pair : IsPair answer v list one other ds

abbrev pub TwinOfAlike : {T : Type 0} → (T → List Shape → List Shape → Bool) → (T → List (List ℕ) → List (List ℕ)) → Type 0
TwinOfAlike {T} accepts answer =
    (v : Party) (list : Steps T) (one other : SlotWords) → IsWellFormed accepts list → ShowAlike answer v list one other
    → (ds : ThreeTapes) → TapesFit list ds → HasTwin answer v list one other ds

-- and the pairing is one to one: two different tapes have two different twins, and all tapes that fit are a twin
pub record IsOneToOne {T : Type 0} (answer : T → List (List ℕ) → List (List ℕ)) (v : Party) (list : Steps T) (one other : SlotWords) : Type 0 where
  pub differ : (ds es : ThreeTapes) → TapesFit list ds → TapesFit list es → twin_tapes answer v list one other ds ≡ twin_tapes answer v list one other es → ds ≡ es
  pub reached : (es : ThreeTapes) → TapesFit list es → (ds : ThreeTapes) × (TapesFit list ds × (twin_tapes answer v list one other ds ≡ es))

abbrev pub TwinsDiffer : {T : Type 0} → (T → List Shape → List Shape → Bool) → (T → List (List ℕ) → List (List ℕ)) → Type 0
TwinsDiffer {T} accepts answer =
    (v : Party) (list : Steps T) (one other : SlotWords) → IsWellFormed accepts list → ShowAlike answer v list one other → IsOneToOne answer v list one other
