use Rattle.bags.proofs.Rows.{row_sorted_by_key}
use Rattle.bags.proofs.sort.sort_rows.Goals as goal

pub returns-clause-sorted : goal.returns-clause-sorted
returns-clause-sorted c = row_sorted_by_key (λ row. row.now) _ _ c.sort_unstable.ensures.permutation c.sort_unstable.ensures.sorted
