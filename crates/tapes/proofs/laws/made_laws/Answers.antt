use Rattle.tapes.proofs.Existence.{seeds_have_tapes}
use Rattle.tapes.proofs.Making.{only_made}
use Rattle.tapes.proofs.laws.made_laws.Goals as goal

pub returns : goal.returns
returns c = record {
  exist = seeds_have_tapes c.bags_are_permutations.ensures c.sorted_is_in_order.ensures;
  only = λ seed tape needs a b p q. only_made seed tape 0 needs a b p q;
}
