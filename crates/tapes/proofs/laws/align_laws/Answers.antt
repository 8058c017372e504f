use Rattle.tapes.specs.Order.{inverse_of}
use Rattle.tapes.proofs.Aligning.{only_aligned, aligned_back, aligned_applied}
use Rattle.tapes.proofs.Existence.{same_bags_align}
use Rattle.tapes.proofs.laws.align_laws.Goals as goal

pub returns : goal.returns
returns c = record {
  exact = record {
    gives = aligned_applied;
    only = only_aligned;
    back = λ x y d e a b. only_aligned y x e (inverse_of d) b (aligned_back x y d a);
  };
  exist = same_bags_align c.bags_are_equivalence.ensures c.bags_keep_rows.ensures c.words_of_same_members.ensures c.words_of_rows.ensures;
}
