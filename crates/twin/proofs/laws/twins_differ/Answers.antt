use Rattle.twin.proofs.Answering.{differ}
use Rattle.twin.proofs.laws.twins_differ.Goals as goal

pub returns : goal.returns
returns g c = differ g.T.Task.accepts g.T.Task.answer c.bags_are_equivalence.ensures c.twin_of_alike.ensures
