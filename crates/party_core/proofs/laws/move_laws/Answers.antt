use Rattle.party_core.proofs.Moves.{moves_keep}
use Rattle.party_core.proofs.laws.move_laws.Goals as goal

pub returns : goal.returns
returns g c = moves_keep g.T.Task.accepts g.T.Task.answer
