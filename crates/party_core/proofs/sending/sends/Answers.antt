use Rattle.party_core.proofs.StepArms.{reveal_sent, steer_sent}
use Rattle.party_core.proofs.sending.sends.Goals as goal

pub returns-in-Reveal : goal.returns-in-Reveal
returns-in-Reveal g c =
    reveal_sent g.T.Task.accepts g.T.Task.answer c.reveal_sends.result c.args.party c.args.state.now c.args.portion.now c.args.rows c.args.stage c.args.step.now
    c.in-Reveal.to c.in-Reveal.moved c.in-Reveal.shown c.as_slice-moved.result.now c.as_slice-shown.result.now c.as_slice-moved.ensures.value c.as_slice-shown.ensures.value c.in-Reveal.is c.reveal_sends.ensures

pub returns-in-Steer : goal.returns-in-Steer
returns-in-Steer g c =
    steer_sent g.T.Task.accepts g.T.Task.answer c.steer_sends.result c.args.party c.args.state.now c.args.portion.now c.args.rows c.args.stage c.args.step.now
    c.in-Steer.by c.in-Steer.slot c.in-Steer.moved c.as_slice-moved-in-Steer.result.now c.as_slice-moved-in-Steer.ensures.value c.in-Steer.is c.steer_sends.ensures
