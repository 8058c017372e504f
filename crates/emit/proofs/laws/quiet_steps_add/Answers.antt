use Rattle.emit.proofs.Circuits.{quiet_steps_add}
use Rattle.emit.proofs.laws.quiet_steps_add.Goals as goal

pub returns : goal.returns
returns g c = quiet_steps_add g.T.Task.answer
