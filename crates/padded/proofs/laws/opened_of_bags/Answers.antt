use Rattle.padded.proofs.Zeros.{opened_bags}
use Rattle.padded.proofs.laws.opened_of_bags.Goals as goal

pub returns : goal.returns
returns c = opened_bags c.bags_are_equivalence.ensures c.bags_keep_rows.ensures c.bags_of_map.ensures c.bags_of_append.ensures
