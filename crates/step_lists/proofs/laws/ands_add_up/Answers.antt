use Rattle.step_lists.specs.Layout.{starting}
use Rattle.step_lists.specs.Prefixes.{ands-append}
use Rattle.step_lists.proofs.laws.ands_add_up.Goals as goal

pub returns : goal.returns
returns g c = λ a more. ands-append (starting a.first) a.steps more
