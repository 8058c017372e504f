-- What the phases of a Steer draw, and the private order.
use Rattle.std.specs.Prelude.{◌≡◌, ◌<◌, ◌*◌, ℕ, List, length}
use Rattle.lanes.specs.declared.party.Party.{Party}
use Rattle.lanes.specs.Three.{at}
use Rattle.tapes.specs.Order.{IsOrder}
use Rattle.step_lists.specs.Machine.{Machine, slot_of}
use Rattle.joint_machine.specs.Steps.{PhaseDraw, IsDrawnFor}

-- the draws of two phases on m registers of n rows
pub record AreSteerDraws (m n : ℕ) (one : PhaseDraw) (mask other : List ℕ) : Type 0 where
  pub first : IsDrawnFor n (m * n) one
  pub mask_long : length mask ≡ m * n
  pub other_long : length other ≡ m * n

-- a slot of a party that is an order of n items
pub record IsPrivate (m : Machine) (p : Party) (slot n : ℕ) : Type 0 where
  pub made : slot < length (at p m.slots)
  pub order : IsOrder (slot_of m p slot)
  pub long : length (slot_of m p slot) ≡ n
