use Rattle.bags.proofs.Bags.{SameBag-refl, SameBag-sym, SameBag-trans}
use Rattle.bags.proofs.laws.bags_are_equivalence.Goals as goal

pub returns : goal.returns
returns c = record { itself = SameBag-refl; back = λ xs ys. SameBag-sym; along = λ xs ys zs. SameBag-trans }
