use Rattle.plain_operators.proofs.OnSources.{operator_keeps_size}
use Rattle.plain_operators.proofs.laws.operator_keeps_size.Goals as goal

pub returns : goal.returns
returns c = operator_keeps_size c.operator_counts.ensures
