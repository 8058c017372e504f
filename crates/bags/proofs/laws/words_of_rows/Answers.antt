use Rattle.bags.proofs.Bags.{SameBag-map}
use Rattle.bags.proofs.Rows.{row_test, word_test}
use Rattle.bags.proofs.laws.words_of_rows.Goals as goal

pub returns : goal.returns
returns c = record { column = λ f xs ys. SameBag-map row_test f; rows = λ f xs ys. SameBag-map word_test f; words = λ f xs ys. SameBag-map word_test f }
