-- Two worlds that a viewer can't tell apart.
use Rattle.std.specs.Prelude.{◌≡◌, ℕ, Bool, List}
use Rattle.lanes.specs.declared.party.Party.{Party}
use Rattle.lanes.specs.Party.{next}
use Rattle.lanes.specs.Three.{at}
use Rattle.step_lists.specs.declared.step.Shape.{Shape}
use Rattle.step_lists.specs.Layout.{Steps}
use Rattle.step_lists.specs.Draws.{ThreeTapes}
use Rattle.step_lists.specs.Rules.{IsWellFormed}
use Rattle.step_lists.specs.Open.{SlotWords}
use Rattle.step_lists.specs.Possible.{SlotsFit, TapesFit}
use Rattle.step_lists.specs.Seen.{AreAlike, seen}
use Rattle.step_lists.specs.Machine.{joint_of, view_of}
use Rattle.step_lists.specs.Twin.{twin_tapes}

-- slots of two worlds that fit, those of the viewer the same
pub record AreWorlds {T : Type 0} (v : Party) (list : Steps T) (one other : SlotWords) : Type 0 where
  pub one_fits : SlotsFit list.first one
  pub other_fits : SlotsFit list.first other
  pub viewer : at v one ≡ at v other

-- the viewer holds the same two tapes, receives the same words, has the same slots and stops at the same place
pub record LookAlike {T : Type 0} (answer : T → List (List ℕ) → List (List ℕ)) (v : Party) (list : Steps T) (one other : SlotWords) (ds es : ThreeTapes) : Type 0 where
  pub own_tape : at v es ≡ at v ds
  pub following_tape : at (next v) es ≡ at (next v) ds
  pub view : view_of v (joint_of answer list other es) ≡ view_of v (joint_of answer list one ds)
  pub slots : at v (joint_of answer list other es).slots ≡ at v (joint_of answer list one ds).slots
  pub flags : (joint_of answer list other es).flags ≡ (joint_of answer list one ds).flags
  pub stop : (joint_of answer list other es).stop ≡ (joint_of answer list one ds).stop

-- the second world under the twin looks like the first, and the twin back is the old tapes
pub record IsPair {T : Type 0} (answer : T → List (List ℕ) → List (List ℕ)) (v : Party) (list : Steps T) (one other : SlotWords) (ds : ThreeTapes) : Type 0 where
  pub look : LookAlike answer v list one other ds (twin_tapes answer v list one other ds)
  pub back : twin_tapes answer v list other one (twin_tapes answer v list one other ds) ≡ ds

-- so it is where what the viewer is shown, told and flagged under the tapes and under the twin is alike
abbrev pub TwinPairs : {T : Type 0} → (T → List Shape → List Shape → Bool) → (T → List (List ℕ) → List (List ℕ)) → Type 0
TwinPairs {T} accepts answer =
    (v : Party) (list : Steps T) (one other : SlotWords) (ds : ThreeTapes) → IsWellFormed accepts list → AreWorlds v list one other → TapesFit list ds
    → AreAlike (seen answer v list one ds) (seen answer v list other (twin_tapes answer v list one other ds)) → IsPair answer v list one other ds
