use Rattle.bags.proofs.Bags.{SameBag-map}
use Rattle.bags.proofs.Rows.{row_test}
use Rattle.bags.proofs.laws.bags_of_map.Goals as goal

pub returns : goal.returns
returns c = λ f xs ys. SameBag-map row_test f
