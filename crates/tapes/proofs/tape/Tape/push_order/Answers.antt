use Rattle.std.proofs.Common.{arith}
use Rattle.tapes.proofs.Growing.{laid_order, draws_order}
use Rattle.tapes.proofs.tape.Tape.push_order.Goals as goal

pub invariant_of-self-2 : goal.invariant_of-self-2
invariant_of-self-2 c =
    rw c.in_ok-push.ensures.items (laid_order c.self.inside.words.items c.self.inside.orders.items _ c.self.invariant (omega arith))

pub returns-clause-pushed : goal.returns-clause-pushed
returns-clause-pushed c =
    rw (c.in_ok-push.ensures.items, ← c.self.view_is) (draws_order c.self.inside.words.items c.self.inside.orders.items _ c.self.invariant (omega arith))
