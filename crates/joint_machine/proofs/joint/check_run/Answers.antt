use Rattle.std.proofs.Common.{rules}
use Rattle.joint_machine.specs.Left.{draws_of}
use Rattle.joint_machine.proofs.joint.check_run.Goals as goal

pub returns-in_err-check_slots-clause-fault : goal.returns-in_err-check_slots-clause-fault
returns-in_err-check_slots-clause-fault g c =
    let f = c.in_err-check_slots.ensures.fault (draws_of c.args.tapes.now) in
    search (rules, f)
