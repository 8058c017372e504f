use Rattle.std.proofs.Common.{map, sym, ap, subst, ◌∙◌}
use Rattle.step_lists.specs.Open.{item}
use Rattle.step_lists.specs.Seen.{same_party}
use Rattle.step_lists.specs.Shapes.{IsInput}
use Rattle.party_core.proofs.StepArms.{and_ready, work_ready, reveal_made, steer_made}
use Rattle.party_core.proofs.state.State.run_step.Goals as goal

pub push_and-requires : goal.push_and-requires
push_and-requires g c =
    and_ready g.T.Task.accepts g.T.Task.answer c.args.party c.requires.0 c.args.step.now c.args.self.now c.args.portion.now c.in-And.left c.in-And.right c.in-And.is c.requires.1

pub push_work-requires : goal.push_work-requires
push_work-requires g c own =
    let i = c.in-Work in
    subst (λ takes. IsInput (g.T.Task.accepts i.task) (map (item c.args.self.now.slots) takes)) (sym c.as_slice-in-Work.ensures.value)
    (work_ready g.T.Task.accepts g.T.Task.answer c.args.party c.requires.0 c.args.step.now c.args.self.now c.args.portion.now i.by i.task i.takes i.gives i.is c.requires.1
    (ap (same_party c.args.party) (sym c.party_of-in-Work.ensures) ∙ own))

pub returns-in-Reveal-clause-done : goal.returns-in-Reveal-clause-done
returns-in-Reveal-clause-done g c =
    reveal_made g.T.Task.accepts g.T.Task.answer c.push_reveal.result c.args.party c.args.self.now c.push_reveal.new.self c.args.portion.now c.args.rows c.args.step.now
    c.in-Reveal.to c.in-Reveal.moved c.in-Reveal.shown c.as_slice-moved.result.now c.as_slice-shown.result.now c.as_slice-moved.ensures.value c.as_slice-shown.ensures.value c.in-Reveal.is c.push_reveal.ensures.done

pub returns-in-Steer-clause-done : goal.returns-in-Steer-clause-done
returns-in-Steer-clause-done g c =
    steer_made g.T.Task.accepts g.T.Task.answer c.push_steer.result c.args.party c.args.self.now c.push_steer.new.self c.args.portion.now c.args.rows c.args.step.now
    c.in-Steer.by c.in-Steer.slot c.in-Steer.moved c.as_slice-in-Steer.result.now c.as_slice-in-Steer.ensures.value c.in-Steer.is c.push_steer.ensures.done
