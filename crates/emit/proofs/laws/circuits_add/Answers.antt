use Rattle.emit.proofs.Circuits.{circuits_add}
use Rattle.emit.proofs.laws.circuits_add.Goals as goal

pub returns : goal.returns
returns g c = circuits_add g.T.Task.answer
