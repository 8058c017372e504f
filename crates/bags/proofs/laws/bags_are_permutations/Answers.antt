use Rattle.bags.specs.Bag.{row_eq}
use Rattle.bags.proofs.Permutations.{SameBag-from_permutation, permutation_from-SameBag}
use Rattle.bags.proofs.Rows.{row_test}
use Rattle.bags.proofs.laws.bags_are_permutations.Goals as goal

pub returns : goal.returns
returns c = λ xs ys. (permutation_from-SameBag row_test xs ys, SameBag-from_permutation row_eq xs ys)
