-- What the three shares of the joint machine stand for.
use Rattle.std.specs.Prelude.{◌≡◌, ℕ, Bool, false, List, length, map}
use Rattle.std.specs.List.{AllZip}
use Rattle.lanes.specs.declared.party.Party.{Party}
use Rattle.lanes.specs.Three.{at, opened}
use Rattle.step_lists.specs.declared.step.Shape.{Shape}
use Rattle.step_lists.specs.Layout.{Steps, layout_of}
use Rattle.step_lists.specs.Draws.{ThreeTapes}
use Rattle.step_lists.specs.Rules.{IsWellFormed}
use Rattle.step_lists.specs.Shapes.{IsLawful}
use Rattle.step_lists.specs.Open.{SlotWords, Open, open_of}
use Rattle.step_lists.specs.Phases.{Shares}
use Rattle.step_lists.specs.Machine.{Machine, joint_of}
use Rattle.step_lists.specs.Possible.{Fits}

-- the three shares of each register xor to its open value; slots, flags and stop are those of the open values
pub record Opens (m : Machine) (o : Open) : Type 0 where
  pub registers : map opened m.registers ≡ o.registers
  pub slots : m.slots ≡ o.slots
  pub flags : m.flags ≡ o.flags
  pub stop : m.stop ≡ o.stop

-- for every well-formed list, every task that keeps its law, and all slots and tapes that fit
abbrev pub SharesAreOpened : {T : Type 0} → (T → List Shape → List Shape → Bool) → (T → List (List ℕ) → List (List ℕ)) → Type 0
SharesAreOpened {T} accepts answer =
    (list : Steps T) (slots : SlotWords) (ds : ThreeTapes) → IsLawful accepts answer → IsWellFormed accepts list → Fits list slots ds
    → Opens (joint_of answer list slots ds) (open_of answer list slots ds)

-- three shares of so many words each
pub record IsLong (n : ℕ) (s : Shares) : Type 0 where
  pub each : (p : Party) → length (at p s) ≡ n

-- where the run doesn't stop, each share of a register has the register's length
abbrev pub SharesAreLong : {T : Type 0} → (T → List Shape → List Shape → Bool) → (T → List (List ℕ) → List (List ℕ)) → Type 0
SharesAreLong {T} accepts answer =
    (list : Steps T) (slots : SlotWords) (ds : ThreeTapes) → IsLawful accepts answer → IsWellFormed accepts list → Fits list slots ds
    → (joint_of answer list slots ds).stop ≡ false → AllZip IsLong (layout_of list).registers (joint_of answer list slots ds).registers
