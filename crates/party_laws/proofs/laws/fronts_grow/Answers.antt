use Rattle.party_laws.proofs.Fronts.{fronts_grow}
use Rattle.party_laws.proofs.laws.fronts_grow.Goals as goal

pub returns : goal.returns
returns g c = fronts_grow g.T.Task.accepts g.T.Task.answer
