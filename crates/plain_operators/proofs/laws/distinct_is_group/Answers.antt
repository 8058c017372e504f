use Rattle.plain_operators.proofs.Groups.{distinct_is_group}
use Rattle.plain_operators.proofs.laws.distinct_is_group.Goals as goal

pub returns : goal.returns
returns c = distinct_is_group
