use Rattle.std.proofs.Common.{get_or, sym, subst}
use Rattle.joint_machine.specs.Ready.{HasRows}
use Rattle.joint_machine.specs.Seen.{lists}
use Rattle.twin.proofs.Readied.{own_rows, moved_rows}
use Rattle.twin.proofs.compare.open_columns.Goals as goal

pub open-requires : goal.open-requires
open-requires c =
    let s = lists c.register.result.now in
    let m = c.args.machine.now in
    let n = c.args.rows in
    let k = get_or c.args.shown.now c.loop-place.place-index 0 in
    own_rows n s
    (subst (HasRows n) (sym c.register.ensures) (moved_rows m n c.args.moved.now k (c.requires.shown c.loop-place.place-index c.loop-place-test.true) c.requires.rows))
