use Rattle.bags.proofs.Folds.{fold_op_bag}
use Rattle.bags.proofs.Rows.{word_test}
use Rattle.bags.proofs.laws.fold_of_words.Goals as goal

pub returns : goal.returns
returns c = λ op assoc comm. fold_op_bag op assoc comm word_test
