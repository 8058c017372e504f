use Rattle.bags.proofs.Bags.{SameBag-flat_map}
use Rattle.bags.proofs.Rows.{row_test}
use Rattle.bags.proofs.laws.bags_of_flat_map.Goals as goal

pub returns : goal.returns
returns c = λ f g xs ys each. SameBag-flat_map row_test f g each
