use Rattle.std.proofs.Common.{sym, subst}
use Rattle.lanes.specs.declared.party.Party.TheVariants.{First, Second, Third}
use Rattle.joint_machine.specs.Left.{IsNext, left, lefts}
use Rattle.joint_machine.specs.Steps.{drawn}
use Rattle.joint_machine.proofs.DrawnSteps.{first_needs, second_needs, third_needs, reveal_drawn}
use Rattle.joint_machine.proofs.draws.draw_reveal.Goals as goal

pub reveal_first-requires : goal.reveal_first-requires
reveal_first-requires c = subst (λ w. IsNext (first_needs c.args.rows w) (left c.args.tapes.now.first)) (sym c.in_ok-count.ensures) (c.requires First)

pub reveal_second-requires : goal.reveal_second-requires
reveal_second-requires c = subst (λ w. IsNext (second_needs c.args.rows w) (left c.args.tapes.now.second)) (sym c.in_ok-count.ensures) (c.requires Second)

pub reveal_third-requires : goal.reveal_third-requires
reveal_third-requires c = subst (λ w. IsNext (third_needs c.args.rows w) (left c.args.tapes.now.third)) (sym c.in_ok-count.ensures) (c.requires Third)

pub returns : goal.returns
returns c =
    let a = c.reveal_first in
    let b = c.reveal_second in
    let d = c.reveal_third in
    reveal_drawn c.args.moved c.args.rows c.in_ok-count.count (lefts c.args.tapes.now)
    (record { first = left a.new.tape; second = left b.new.tape; third = left d.new.tape })
    (drawn a.result.0.now d.result.0.now b.result.0.now)
    (drawn b.result.1.now a.result.1.now d.result.1.now)
    (drawn d.result.2.now b.result.2.now a.result.2.now)
    c.in_ok-count.ensures
    (record { order = a.ensures.order; mask = d.ensures.one; other = b.ensures.one })
    (record { order = b.ensures.order; mask = a.ensures.one; other = d.ensures.two })
    (record { order = d.ensures.order; mask = b.ensures.two; other = a.ensures.two })
    a.ensures.takes b.ensures.takes d.ensures.takes
