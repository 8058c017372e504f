use Rattle.party_core.proofs.StepArms.{and_ready}
use Rattle.party_core.proofs.sending.sends_once.Goals as goal

pub and_sends-requires : goal.and_sends-requires
and_sends-requires g c =
    and_ready g.T.Task.accepts g.T.Task.answer c.args.party c.requires.0 c.args.step.now c.args.state.now c.args.portion.now c.in-And.left c.in-And.right c.in-And.is c.requires.1
