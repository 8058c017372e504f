use Rattle.bags.proofs.Folds.{fold_op_bag}
use Rattle.bags.proofs.Rows.{row_test}
use Rattle.bags.proofs.laws.bags_of_fold.Goals as goal

pub returns : goal.returns
returns c = λ op assoc comm. fold_op_bag op assoc comm row_test
