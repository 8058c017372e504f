use Rattle.std.proofs.Common.{refl}
use Rattle.joint_machine.proofs.AndLanes.{masked_at}
use Rattle.joint_machine.proofs.masked.masked_lane.Goals as goal

pub returns : goal.returns
returns c =
    rw (masked_at c.item_laws.ensures.items c.args.i c.args.own.now c.args.next.now c.args.other_own.now c.args.other_next.now c.args.mask.now c.args.next_mask.now, c.shared_and.ensures) refl
