use Rattle.bags.proofs.Rows.{row_sorted}
use Rattle.bags.proofs.laws.sorted_is_unique.Goals as goal

pub returns : goal.returns
returns c = row_sorted
