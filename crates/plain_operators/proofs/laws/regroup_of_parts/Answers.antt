use Rattle.plain_operators.proofs.Regroup.{regroup_of_parts}
use Rattle.plain_operators.proofs.laws.regroup_of_parts.Goals as goal

pub returns : goal.returns
returns c = regroup_of_parts
