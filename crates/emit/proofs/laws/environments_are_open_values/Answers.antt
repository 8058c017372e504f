use Rattle.emit.proofs.Circuits.{environments_exist, carried_is_opened}
use Rattle.emit.proofs.laws.environments_are_open_values.Goals as goal

pub returns-clause-exist : goal.returns-clause-exist
returns-clause-exist g c = environments_exist g.T.Task.accepts g.T.Task.answer c.values_have_shapes.ensures

pub returns-clause-carried : goal.returns-clause-carried
returns-clause-carried g c = carried_is_opened g.T.Task.accepts g.T.Task.answer c.values_have_shapes.ensures
