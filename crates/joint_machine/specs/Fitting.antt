-- A machine that fits the layout that its steps have grown, and how it stays so: what a caller needs that goes step by
-- step.
use Rattle.std.specs.Prelude.{◌≤◌, ℕ, Bool, List, IsTrue}
use Rattle.std.specs.List.{AllZip}
use Rattle.lanes.specs.declared.party.Party.{Party}
use Rattle.lanes.specs.declared.three.Three.{Three}
use Rattle.lanes.specs.Three.{at}
use Rattle.tapes.specs.Needs.{FitsNeeds}
use Rattle.step_lists.specs.declared.step.Shape.{Shape}
use Rattle.step_lists.specs.declared.step.Step.{Step}
use Rattle.step_lists.specs.Layout.{Layout, grown, starting}
use Rattle.step_lists.specs.Rules.{is_fine}
use Rattle.step_lists.specs.Draws.{ThreeTapes, needs_of}
use Rattle.step_lists.specs.Open.{SlotWords, Open}
use Rattle.step_lists.specs.Possible.{SlotsFit}
use Rattle.step_lists.specs.Shapes.{HasLength, HaveShapes}
use Rattle.step_lists.specs.Machine.{Machine, machine_step, step_words, delivered, before_steps}
use Rattle.joint_machine.specs.Left.{AreNext}
use Rattle.joint_machine.specs.Opens.{Opens, IsLong}
use Rattle.joint_machine.specs.Stepping.{IsReady}

-- shares of open values that fit the layout, each as long as its register, and no more flags than the layout has
pub record IsFitting (l : Layout) (m : Machine) : Type 0 where
  pub values : Open
  pub opens : Opens m values
  pub registers : AllZip HasLength l.registers values.registers
  pub slots : (p : Party) → HaveShapes (at p l.slots) (at p values.slots)
  pub long : AllZip IsLong l.registers m.registers
  pub few : m.flags ≤ l.flags

-- it fits before the first step; it is ready for a step that may come next and has its draws; and behind it it fits
pub record StepsFit {T : Type 0} (accepts : T → List Shape → List Shape → Bool) (answer : T → List (List ℕ) → List (List ℕ)) : Type 0 where
  pub starts : (first : Three (List ℕ)) (slots : SlotWords) → SlotsFit first slots → IsFitting (starting first) (before_steps slots)
  pub ready : (l : Layout) (m : Machine) (s : Step T) (ds : ThreeTapes) → IsTrue (is_fine accepts l s) → AreNext (needs_of l s) ds
      → IsFitting l m → IsReady accepts l s m ds
  pub stepped : (l : Layout) (m : Machine) (s : Step T) (ds : ThreeTapes) → IsTrue (is_fine accepts l s)
      → ((p : Party) → FitsNeeds (at p (needs_of l s)) (at p ds)) → IsFitting l m
      → IsFitting (grown l s) (delivered (step_words l m s ds) (machine_step answer l m s ds))
