use Rattle.plain_operators.proofs.Aggregates.{aggregates_of_append}
use Rattle.plain_operators.proofs.laws.aggregates_of_append.Goals as goal

pub returns : goal.returns
returns c = aggregates_of_append
