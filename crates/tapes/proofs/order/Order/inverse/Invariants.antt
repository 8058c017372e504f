use Rattle.tapes.proofs.OrderLemmas.{PlacesBack}
use Rattle.tapes.proofs.order.Order.inverse.Given as goal

abbrev pub invariant-loop-i : goal.invariant-loop-i
invariant-loop-i l = PlacesBack l.self-inside.places.items l.places.items l.i
