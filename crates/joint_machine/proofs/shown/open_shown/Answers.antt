use Rattle.joint_machine.proofs.Turning.{row_at, own_rows}
use Rattle.std.proofs.Common.{get_or}
use Rattle.joint_machine.specs.Seen.{lists}
use Rattle.joint_machine.proofs.shown.open_shown.Goals as goal

pub open-requires : goal.open-requires
open-requires c =
    let s = c.index-shares-place.result in
    let k = get_or c.args.shown.now c.loop-place.place-index 0 in
    own_rows c.args.rows (lists s)
    (row_at c.args.rows c.args.shares.now k s c.requires.rows (c.requires.made c.loop-place.place-index c.loop-place-test.true) c.index-shares-place.is)
