use Rattle.std.proofs.Common.{◌≡◌, take, map}
use Rattle.step_lists.specs.Open.{item}
use Rattle.step_lists.specs.Shapes.{word_lists}
use Rattle.party_core.proofs.state.State.copy_slots.Given as goal

abbrev pub invariant-loop-slot : goal.invariant-loop-slot
invariant-loop-slot l = word_lists l.made ≡ map (item l.self.slots) (take l.slot-index l.slots)
