use Rattle.tapes.proofs.Growing.{laid_empty, no_draws}
use Rattle.tapes.proofs.tape.Tape.with_room.Goals as goal

pub invariant_of-result : goal.invariant_of-result
invariant_of-result c = rw (c.in_ok-words.ensures.items, c.new-orders.ensures.items) laid_empty

pub returns : goal.returns
returns c = rw (c.in_ok-words.ensures.items, c.new-orders.ensures.items) no_draws
