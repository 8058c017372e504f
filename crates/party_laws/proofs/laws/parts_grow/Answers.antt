use Rattle.party_laws.proofs.Growing.{parts_grow}
use Rattle.party_laws.proofs.laws.parts_grow.Goals as goal

pub returns : goal.returns
returns g c = parts_grow g.T.Task.answer
