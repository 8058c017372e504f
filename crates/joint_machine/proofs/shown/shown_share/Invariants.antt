use Rattle.std.proofs.Common.{◌≡◌, take, map}
use Rattle.std.specs.List.{flat_map}
use Rattle.lanes.specs.Three.{at}
use Rattle.joint_machine.specs.Seen.{lists}
use Rattle.joint_machine.specs.Steps.{shown_of}
use Rattle.joint_machine.proofs.shown.shown_share.Given as goal

abbrev pub invariant-loop-place : goal.invariant-loop-place
invariant-loop-place l = l.words.items ≡ flat_map (at l.party) (shown_of (map lists l.shares) (take l.place-index l.shown))
