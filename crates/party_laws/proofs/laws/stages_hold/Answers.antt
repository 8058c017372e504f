use Rattle.party_laws.proofs.Fronts.{stages_hold}
use Rattle.party_laws.proofs.laws.stages_hold.Goals as goal

pub returns : goal.returns
returns g c = stages_hold g.T.Task.accepts g.T.Task.answer c.item_laws.ensures.lengths c.order_laws.ensures.closed c.steps_fit.ensures
