use Rattle.std.proofs.Common.{length, sym, subst}
use Rattle.step_lists.specs.Draws.{needs_steer, taken}
use Rattle.step_lists.specs.Machine.{slot_of}
use Rattle.joint_machine.specs.Left.{AreNext, lefts}
use Rattle.joint_machine.specs.Steps.{IsSteer}
use Rattle.joint_machine.proofs.machine.Machine.step_steer.Goals as goal

pub draw_steer-requires : goal.draw_steer-requires
draw_steer-requires c =
    subst (λ n. AreNext (needs_steer c.args.by (length c.args.moved.now) n) (lefts c.args.tapes.now)) (sym c.rows-rows.ensures) c.requires.draws

pub returns-clause-machine : goal.returns-clause-machine
returns-clause-machine c =
    let m = c.args.self.now in
    let moved = c.args.moved.now in
    let g = slot_of m c.args.by c.args.slot in
    let x = lefts c.args.tapes.now in
    let new = c.push_steer.new.self in
    let ds = taken (needs_steer c.args.by (length moved) c.rows-rows.result) x in
    let one = subst (λ n. IsSteer m n c.args.by g moved ds new) c.in_ok-draws.ensures.one_long.order
    (c.in_ok-push_steer.ensures ds c.in_ok-draws.ensures.holds) in
    subst (λ n. IsSteer m n c.args.by g moved (taken (needs_steer c.args.by (length moved) n) x) new) c.rows-rows.ensures one
