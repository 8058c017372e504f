use Rattle.std.proofs.Common.{◌≡◌, length, map, take}
use Rattle.step_lists.specs.Shapes.{word_lists}
use Rattle.joint_machine.proofs.joint.first_misfit.Given as goal

abbrev pub invariant-loop-slot : goal.invariant-loop-slot
invariant-loop-slot l = map length (take l.slot (word_lists l.slots)) ≡ take l.slot l.lengths
