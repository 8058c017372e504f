use Rattle.std.proofs.Common.{◌≡◌, take, map}
use Rattle.step_lists.specs.Machine.{slot_of}
use Rattle.step_lists.specs.Shapes.{word_lists}
use Rattle.joint_machine.proofs.machine.Machine.taken_slots.Given as goal

abbrev pub invariant-loop-slot : goal.invariant-loop-slot
invariant-loop-slot l = word_lists l.taken ≡ map (slot_of l.self l.party) (take l.slot-index l.takes)
