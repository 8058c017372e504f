use Rattle.step_lists.proofs.LawLemmas.{flags_decide}
use Rattle.step_lists.proofs.laws.flags_decide.Goals as goal

pub returns : goal.returns
returns g c = flags_decide g.T.Task.answer
