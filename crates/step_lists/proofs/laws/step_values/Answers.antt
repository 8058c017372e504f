use Rattle.step_lists.proofs.LawLemmas.{step_value}
use Rattle.step_lists.proofs.laws.step_values.Goals as goal

pub returns : goal.returns
returns g c = step_value g.T.Task.answer
