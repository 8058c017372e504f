use Rattle.std.proofs.Common.{ap, ◌∙◌, arith}
use Rattle.tapes.proofs.OrderLemmas.{places_back_all, short_inverse}
use Rattle.tapes.specs.Order.{inverse_of}
use Rattle.tapes.proofs.order.Order.inverse.Goals as goal

pub invariant_of-result : goal.invariant_of-result
invariant_of-result c =
    rw (places_back_all c.self.inside.places.items c.loop-i.places.items c.loop-i.i c.self.invariant.order c.loop-i.invariant (omega arith))
    (short_inverse c.self.inside.places.items c.self.invariant)

pub returns : goal.returns
returns c =
    places_back_all c.self.inside.places.items c.loop-i.places.items c.loop-i.i c.self.invariant.order c.loop-i.invariant (omega arith)
    ∙ ap inverse_of c.self.view_is
