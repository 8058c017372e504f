use Rattle.emit.proofs.Circuits.{wires_add, wires_open}
use Rattle.emit.proofs.laws.wires_leave.Goals as goal

pub returns-clause-adds : goal.returns-clause-adds
returns-clause-adds g c = wires_add g.T.Task.answer

pub returns-clause-opened : goal.returns-clause-opened
returns-clause-opened g c = wires_open g.T.Task.accepts g.T.Task.answer c.environments_are_open_values.ensures.exist
