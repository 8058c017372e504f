use Rattle.bags.specs.Sorted.{row_cmp}
use Rattle.bags.proofs.Rows.{row_order}
use Rattle.bags.proofs.Sorting.{Ascends-sorted_by, SameBag-sorted_by, sorted_from-Ascends}
use Rattle.bags.proofs.laws.sorted_is_in_order.Goals as goal

pub returns : goal.returns
returns c = record { in_order = λ rows. sorted_from-Ascends row_cmp _ (Ascends-sorted_by row_order rows); same_bag = SameBag-sorted_by row_cmp }
