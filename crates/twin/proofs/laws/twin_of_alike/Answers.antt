use Rattle.twin.proofs.Answering.{of_alike}
use Rattle.twin.proofs.laws.twin_of_alike.Goals as goal

pub returns : goal.returns
returns g c = of_alike g.T.Task.accepts g.T.Task.answer c.twin_fits.ensures c.twin_pairs.ensures
