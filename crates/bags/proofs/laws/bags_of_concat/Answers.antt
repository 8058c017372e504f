use Rattle.bags.specs.Bag.{row_eq}
use Rattle.bags.proofs.Permutations.{SameBag-concat, SameBag-flat_map_permutation}
use Rattle.bags.proofs.laws.bags_of_concat.Goals as goal

pub returns : goal.returns
returns c = record { each = SameBag-concat; reordered = SameBag-flat_map_permutation row_eq (λ rows. rows) }
