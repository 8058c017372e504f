use Rattle.tapes.proofs.Growing.{laid_word, draws_word}
use Rattle.tapes.proofs.tape.Tape.push_word.Goals as goal

pub invariant_of-self-2 : goal.invariant_of-self-2
invariant_of-self-2 c =
    rw c.in_ok-push.ensures.items (laid_word c.self.inside.words.items c.self.inside.orders.items c.args.word c.self.invariant)

pub returns-clause-pushed : goal.returns-clause-pushed
returns-clause-pushed c =
    rw (c.in_ok-push.ensures.items, ← c.self.view_is) (draws_word c.self.inside.words.items c.self.inside.orders.items c.args.word c.self.invariant)
