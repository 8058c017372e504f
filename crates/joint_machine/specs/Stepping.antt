-- A machine that is ready for a step, and what the step makes of it.
use Rattle.std.specs.Prelude.{◌≡◌, ℕ, ◌≤◌, Bool, List, IsTrue}
use Rattle.std.specs.List.{AllZip}
use Rattle.lanes.specs.declared.party.Party.{Party}
use Rattle.lanes.specs.Three.{at}
use Rattle.step_lists.specs.declared.step.Shape.{Shape}
use Rattle.step_lists.specs.declared.step.Step.{Step}
use Rattle.step_lists.specs.Layout.{Layout}
use Rattle.step_lists.specs.Rules.{is_fine}
use Rattle.step_lists.specs.Shapes.{HaveShapes}
use Rattle.step_lists.specs.Draws.{ThreeTapes, needs_of, taken, dropped}
use Rattle.step_lists.specs.Machine.{Machine, machine_step, step_words, delivered}
use Rattle.joint_machine.specs.Opens.{IsLong}
use Rattle.joint_machine.specs.Left.{AreNext}

-- a step that may come next on a layout that the machine has, with its draws next on the tapes
pub record IsReady {T : Type 0} (accepts : T → List Shape → List Shape → Bool) (l : Layout) (s : Step T) (m : Machine) (ds : ThreeTapes) : Type 0 where
  pub fine : IsTrue (is_fine accepts l s)
  pub long : AllZip IsLong l.registers m.registers
  pub slots : (p : Party) → HaveShapes (at p l.slots) (at p m.slots)
  pub few : m.flags ≤ l.flags
  pub draws : AreNext (needs_of l s) ds

-- the machine behind a step, and what is left of the tapes
pub record IsStepped {T : Type 0} (answer : T → List (List ℕ) → List (List ℕ)) (l : Layout) (s : Step T) (m : Machine) (ds : ThreeTapes) (new : Machine) (rest : ThreeTapes) : Type 0 where
  pub machine : new ≡ delivered (step_words l m s (taken (needs_of l s) ds)) (machine_step answer l m s (taken (needs_of l s) ds))
  pub left : rest ≡ dropped (needs_of l s) ds
