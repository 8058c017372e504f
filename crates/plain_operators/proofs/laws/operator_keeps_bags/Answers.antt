use Rattle.plain_operators.proofs.OnSources.{operator_keeps_bags}
use Rattle.plain_operators.proofs.laws.operator_keeps_bags.Goals as goal

pub returns : goal.returns
returns c = operator_keeps_bags c.bags_of_concat.ensures c.operators_keep_bags.ensures
