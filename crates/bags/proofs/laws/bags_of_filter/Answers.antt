use Rattle.bags.proofs.Bags.{SameBag-filter}
use Rattle.bags.proofs.Rows.{row_test}
use Rattle.bags.proofs.laws.bags_of_filter.Goals as goal

pub returns : goal.returns
returns c = λ p xs ys. SameBag-filter row_test p
