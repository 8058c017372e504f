use Rattle.plain_operators.proofs.Groups.{group_of_blocks}
use Rattle.plain_operators.proofs.laws.group_of_blocks.Goals as goal

pub returns : goal.returns
returns c = group_of_blocks
