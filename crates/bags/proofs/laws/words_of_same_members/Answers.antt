use Rattle.bags.proofs.Members.{HasNoRepeats-from_distinct, same_members_bag}
use Rattle.bags.proofs.Rows.{word_test}
use Rattle.bags.proofs.laws.words_of_same_members.Goals as goal

pub returns : goal.returns
returns c = λ xs ys once_x once_y same. same_members_bag word_test xs ys (HasNoRepeats-from_distinct word_test xs once_x) (HasNoRepeats-from_distinct word_test ys once_y) (λ word. (same word).0) (λ word. (same word).1)
