use Rattle.std.proofs.Common.{◌≡◌, take, map}
use Rattle.step_lists.specs.Machine.{shares}
use Rattle.joint_machine.specs.Seen.{lists}
use Rattle.joint_machine.proofs.machine.Machine.moved_shares.Given as goal

abbrev pub invariant-loop-register : goal.invariant-loop-register
invariant-loop-register l = map lists l.made.items ≡ map (shares l.self) (take l.register-index l.moved)
