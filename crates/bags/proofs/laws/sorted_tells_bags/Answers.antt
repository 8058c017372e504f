use Rattle.bags.proofs.Rows.{row_order, row_test}
use Rattle.bags.proofs.Sorting.{sorted_by-SameBag, SameBag-from_sorted_by}
use Rattle.bags.proofs.laws.sorted_tells_bags.Goals as goal

pub returns : goal.returns
returns c = λ xs ys. (sorted_by-SameBag row_order row_test, SameBag-from_sorted_by row_order)
