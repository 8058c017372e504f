use Rattle.std.proofs.Common.{◌≡◌, true}
use Rattle.bags.proofs.Permutations.{length-SameBag, All-SameBag}
use Rattle.bags.proofs.Rows.{row_test}
use Rattle.bags.proofs.laws.bags_keep_rows.Goals as goal

pub returns : goal.returns
returns c = record { lengths = λ xs ys. length-SameBag row_test; tests = λ p xs ys. All-SameBag row_test (λ row. p row ≡ true) }
