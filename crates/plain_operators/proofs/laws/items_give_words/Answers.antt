use Rattle.plain_operators.proofs.Words.{items_give_words}
use Rattle.plain_operators.proofs.laws.items_give_words.Goals as goal

pub returns : goal.returns
returns c = items_give_words
