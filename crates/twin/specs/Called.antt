-- Why tapes have no twin.
use Rattle.std.specs.Prelude.{⊤, ℕ, List}
use Rattle.lanes.specs.declared.party.Party.{Party}
use Rattle.step_lists.specs.Layout.{Steps}
use Rattle.step_lists.specs.Draws.{ThreeTapes}
use Rattle.step_lists.specs.Open.{SlotWords}
use Rattle.twin.specs.declared.fault.TwinFault.{TwinFault}
use Rattle.twin.specs.declared.fault.TwinFault.TheVariants.{NotAligned, Memory}
use Rattle.twin.specs.Apart.{IsApart}

-- at this step the viewer tells the two worlds apart by these lists; want of memory is free
abbrev pub IsTwinFault : {T : Type 0} → (T → List (List ℕ) → List (List ℕ)) → Party → Steps T → SlotWords → SlotWords → ThreeTapes → TwinFault → Type 0
IsTwinFault answer v list one other ds (NotAligned step first second) = IsApart answer v list one other ds step first second
IsTwinFault answer v list one other ds Memory = ⊤
