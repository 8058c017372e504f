use Rattle.tables.proofs.AnswerText.{answers_of_bags}
use Rattle.tables.proofs.answer.answers_of_equal_bags.Goals as goal

pub returns : goal.returns
returns c = answers_of_bags c.sorted_tells_bags.ensures
