use Rattle.joint_machine.proofs.Revealing.{rows_turned, count_turned}
use Rattle.joint_machine.proofs.phases.phase.Goals as goal

pub returns-clause-rows : goal.returns-clause-rows
returns-clause-rows c =
    rows_turned c.item_laws.ensures.lengths c.args.j c.args.order.now c.args.shares.now c.in_ok-turned.turned.shares.items c.args.mask.now c.args.other.now
    c.in_ok-turned.ensures.made c.requires.mask c.requires.other

pub returns-clause-count : goal.returns-clause-count
returns-clause-count c =
    count_turned c.args.j c.args.order.now c.args.shares.now c.in_ok-turned.turned.shares.items c.args.mask.now c.args.other.now c.in_ok-turned.ensures.made
