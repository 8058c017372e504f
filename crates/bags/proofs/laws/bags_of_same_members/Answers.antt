use Rattle.bags.proofs.Members.{HasNoRepeats-from_distinct, same_members_bag}
use Rattle.bags.proofs.Rows.{row_test}
use Rattle.bags.proofs.laws.bags_of_same_members.Goals as goal

pub returns : goal.returns
returns c = λ xs ys once_x once_y same. same_members_bag row_test xs ys (HasNoRepeats-from_distinct row_test xs once_x) (HasNoRepeats-from_distinct row_test ys once_y) (λ row. (same row).0) (λ row. (same row).1)
