use Rattle.plain_operators.proofs.Columns.{aggregates_are_folds}
use Rattle.plain_operators.proofs.laws.aggregates_are_folds.Goals as goal

pub returns : goal.returns
returns c = aggregates_are_folds
