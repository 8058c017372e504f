use Rattle.party_laws.proofs.HaveWords.{parts_have_words}
use Rattle.party_laws.proofs.laws.parts_have_words.Goals as goal

pub returns : goal.returns
returns g c = parts_have_words g.T.Task.accepts g.T.Task.answer c.item_laws.ensures.lengths c.order_laws.ensures.closed c.steps_fit.ensures
