use Rattle.std.proofs.Common.{length, sym, subst}
use Rattle.step_lists.specs.Draws.{needs_reveal, taken}
use Rattle.joint_machine.specs.Left.{AreNext, lefts}
use Rattle.joint_machine.specs.Steps.{IsReveal}
use Rattle.joint_machine.proofs.machine.Machine.step_reveal.Goals as goal

pub draw_reveal-requires : goal.draw_reveal-requires
draw_reveal-requires c =
    subst (λ n. AreNext (needs_reveal (length c.args.moved.now) n) (lefts c.args.tapes.now)) (sym c.rows-rows.ensures) c.requires.draws

pub returns-clause-machine : goal.returns-clause-machine
returns-clause-machine c =
    let m = c.args.self.now in
    let moved = c.args.moved.now in
    let x = lefts c.args.tapes.now in
    let new = c.push_reveal.new.self in
    let ds = taken (needs_reveal (length moved) c.rows-rows.result) x in
    let one = subst (λ n. IsReveal m n c.args.to moved c.args.shown.now ds new) c.in_ok-draws.ensures.one_long.order
    (c.in_ok-push_reveal.ensures ds c.in_ok-draws.ensures.holds) in
    subst (λ n. IsReveal m n c.args.to moved c.args.shown.now (taken (needs_reveal (length moved) n) x) new) c.rows-rows.ensures one
