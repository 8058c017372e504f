use Rattle.table_laws.proofs.Answers.{answers_come_back}
use Rattle.table_laws.proofs.laws.answers_come_back.Goals as goal

pub returns : goal.returns
returns c =
    answers_come_back c.texts_come_back.ensures c.sorted_is_in_order.ensures c.bags_are_equivalence.ensures c.bags_are_permutations.ensures
