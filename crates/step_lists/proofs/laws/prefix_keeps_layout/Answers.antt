use Rattle.step_lists.proofs.LawLemmas.{keeps_layout}
use Rattle.step_lists.proofs.laws.prefix_keeps_layout.Goals as goal

pub returns : goal.returns
returns g c = keeps_layout
