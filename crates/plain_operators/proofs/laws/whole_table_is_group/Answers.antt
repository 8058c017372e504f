use Rattle.plain_operators.proofs.Groups.{whole_table_is_group}
use Rattle.plain_operators.proofs.laws.whole_table_is_group.Goals as goal

pub returns : goal.returns
returns c = whole_table_is_group
