use Rattle.step_lists.proofs.Ands.{ands_are_few}
use Rattle.step_lists.proofs.laws.ands_are_few.Goals as goal

pub returns : goal.returns
returns g c = ands_are_few g.T.Task.accepts
