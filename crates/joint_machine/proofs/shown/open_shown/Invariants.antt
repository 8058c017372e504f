use Rattle.std.proofs.Common.{◌≡◌, take, map}
use Rattle.lanes.specs.Three.{opened}
use Rattle.step_lists.specs.Shapes.{word_lists}
use Rattle.joint_machine.specs.Seen.{lists}
use Rattle.joint_machine.specs.Steps.{shown_of}
use Rattle.joint_machine.proofs.shown.open_shown.Given as goal

abbrev pub invariant-loop-place : goal.invariant-loop-place
invariant-loop-place l = word_lists l.made ≡ map opened (shown_of (map lists l.shares) (take l.place-index l.shown))
