-- Machines that fit a layout, and two machines that a party can't tell apart.
use Rattle.std.proofs.Common.{◌≡◌, ℕ, List}
use Rattle.std.specs.List.{AllZip}
use Rattle.lanes.specs.declared.party.Party.{Party}
use Rattle.lanes.specs.Party.{next, before}
use Rattle.lanes.specs.Three.{at}
use Rattle.step_lists.specs.Layout.{Layout}
use Rattle.step_lists.specs.Shapes.{HasLength, HaveShapes}
use Rattle.step_lists.specs.Phases.{Shares, Links, link}
use Rattle.step_lists.specs.Machine.{Machine}

-- three shares of so many words below 2 ^ 64
pub record IsFull (n : ℕ) (s : Shares) : Type 0 where
  pub each : (p : Party) → HasLength n (at p s)

-- a machine whose registers and slots are those of a layout
pub record Fitting (l : Layout) (m : Machine) : Type 0 where
  pub registers : AllZip IsFull l.registers m.registers
  pub slots : (p : Party) → HaveShapes (at p l.slots) (at p m.slots)

-- the two shares that a party holds are equal
pub record Held (v : Party) (s t : Shares) : Type 0 where
  pub own : at v s ≡ at v t
  pub following : at (next v) s ≡ at (next v) t

-- in two lists of registers
abbrev pub HeldSame : Party → List Shares → List Shares → Type 0
HeldSame v xs ys = AllZip (Held v) xs ys

-- the words on the two links to a party are equal
pub record SameWords (v : Party) (a b : Links) : Type 0 where
  pub from_next : link (next v) v a ≡ link (next v) v b
  pub from_before : link (before v) v a ≡ link (before v) v b

-- two machines before a step, links aside
pub record SameHere (v : Party) (x y : Machine) : Type 0 where
  pub registers : HeldSame v x.registers y.registers
  pub slots : at v x.slots ≡ at v y.slots
  pub flags : x.flags ≡ y.flags
  pub stop : x.stop ≡ y.stop
