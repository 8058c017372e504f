use Rattle.step_lists.specs.Prefixes.{seen_append}
use Rattle.step_lists.proofs.laws.seen_appends.Goals as goal

pub returns : goal.returns
returns g c = seen_append g.T.Task.answer
