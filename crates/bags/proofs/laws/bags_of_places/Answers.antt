use Rattle.bags.specs.Bag.{row_eq}
use Rattle.bags.proofs.Permutations.{SameBag-picked}
use Rattle.bags.proofs.laws.bags_of_places.Goals as goal

pub returns : goal.returns
returns c = SameBag-picked row_eq
