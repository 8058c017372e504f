use Rattle.emit.proofs.Circuits.{wires_stay}
use Rattle.emit.proofs.laws.wires_stay.Goals as goal

pub returns : goal.returns
returns g c = wires_stay g.T.Task.answer
