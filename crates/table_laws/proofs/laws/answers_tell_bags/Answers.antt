use Rattle.table_laws.proofs.Answers.{answers_tell_bags}
use Rattle.table_laws.proofs.laws.answers_tell_bags.Goals as goal

pub returns : goal.returns
returns c = answers_tell_bags c.answers_come_back.ensures c.bags_are_equivalence.ensures
