use Rattle.std.specs.Prelude.{nat_eq}
use Rattle.bags.proofs.Bags.{SameBag-append, SameBag-refl, SameBag-sym, SameBag-trans}
use Rattle.bags.proofs.Permutations.{SameBag-from_permutation, length-SameBag, permutation_from-SameBag}
use Rattle.bags.proofs.Rows.{word_test}
use Rattle.bags.proofs.laws.words_are_bags.Goals as goal

pub returns : goal.returns
returns c = record {
  itself = SameBag-refl;
  back = λ xs ys. SameBag-sym;
  along = λ xs ys zs. SameBag-trans;
  permutations = λ xs ys. (permutation_from-SameBag word_test xs ys, SameBag-from_permutation nat_eq xs ys);
  lengths = λ xs ys. length-SameBag word_test;
  both = λ xs ys us vs. SameBag-append;
}
