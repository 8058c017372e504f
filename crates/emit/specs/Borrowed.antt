-- The list that wires borrow, and how it grows.
use Rattle.std.specs.Prelude.{◌≡◌}
use Rattle.std.specs.Borrow.{MutBor}
use Rattle.step_lists.specs.Layout.{Steps}
use Rattle.emit.specs.declared.emit.Emit.{Emit}
use Rattle.emit.specs.Emit.{GrowsByCircuit}

-- the list that wires borrow: as it is now, and the name of the borrow; the list of the same name ends as this one
abbrev pub borrowed : {T : Type 0} → Emit T → MutBor (Steps T)
borrowed wires = wires.list

-- wires over this list, as it is
pub record IsOver {T : Type 0} (wires : Emit T) (list : MutBor (Steps T)) : Type 0 where
  pub name : (borrowed wires).ghost_name ≡ list.ghost_name
  pub now : (borrowed wires).now ≡ list.now

-- they still borrow the same list, behind which are steps of circuits
pub record GrowsOver {T : Type 0} (old new : Emit T) : Type 0 where
  pub name : (borrowed old).ghost_name ≡ (borrowed new).ghost_name
  pub steps : GrowsByCircuit (borrowed old).now (borrowed new).now
