use Rattle.twin.proofs.AllSteps.{step_holds}
use Rattle.twin.proofs.Whole.{twin_fits, twin_pairs}
use Rattle.twin.proofs.laws.worlds_step_by_step.Goals as goal

pub returns : goal.returns
returns g c =
    let facts = c.facts.ensures in
    let holds = step_holds g.T.Task.accepts g.T.Task.answer facts g.met.T.Task.shaped in
    record {
      fits = twin_fits g.T.Task.accepts g.T.Task.answer facts holds;
      pairs = twin_pairs g.T.Task.accepts g.T.Task.answer facts holds c.opened_laws.ensures.opened g.met.T.Task.shaped;
    }
