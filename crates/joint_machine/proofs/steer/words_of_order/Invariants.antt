use Rattle.std.proofs.Common.{◌≡◌, take}
use Rattle.joint_machine.proofs.steer.words_of_order.Given as goal

abbrev pub invariant-loop-place : goal.invariant-loop-place
invariant-loop-place l = l.words.items ≡ take l.place-index l.places
