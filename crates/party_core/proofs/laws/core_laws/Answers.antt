use Rattle.party_core.proofs.CoreLaws.{cores_are_parts}
use Rattle.party_core.proofs.laws.core_laws.Goals as goal

pub returns : goal.returns
returns g c = cores_are_parts g.T.Task.accepts g.T.Task.answer
