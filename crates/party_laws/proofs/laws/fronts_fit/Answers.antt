use Rattle.party_laws.proofs.Fronts.{fronts_fit}
use Rattle.party_laws.proofs.laws.fronts_fit.Goals as goal

pub returns : goal.returns
returns g c = fronts_fit g.T.Task.accepts g.T.Task.answer
