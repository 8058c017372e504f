use Rattle.padded.proofs.Zeros.{told_bags}
use Rattle.padded.proofs.laws.told_of_bags.Goals as goal

pub returns : goal.returns
returns c = told_bags c.bags_keep_rows.ensures c.bags_are_equivalence.ensures c.sorted_tells_bags.ensures c.sorted_is_in_order.ensures
