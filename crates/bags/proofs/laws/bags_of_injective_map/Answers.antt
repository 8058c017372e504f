use Rattle.bags.proofs.Members.{map_injective_bag}
use Rattle.bags.proofs.Rows.{row_test}
use Rattle.bags.proofs.laws.bags_of_injective_map.Goals as goal

pub returns : goal.returns
returns c = map_injective_bag row_test
