use Rattle.std.proofs.Common.{◌≡◌, take}
use Rattle.std.specs.List.{flat_map}
use Rattle.lanes.specs.Three.{at}
use Rattle.step_lists.specs.Machine.{shares}
use Rattle.joint_machine.proofs.machine.Machine.joined_shares.Given as goal

abbrev pub invariant-loop-source : goal.invariant-loop-source
invariant-loop-source l = l.joined.items ≡ flat_map (λ r. at l.party (shares l.self r)) (take l.source-index l.sources)
