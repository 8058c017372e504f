use Rattle.std.proofs.Common.{◌≡◌, take}
use Rattle.tapes.specs.Order.{composed}
use Rattle.tapes.proofs.order.Order.then.Given as goal

abbrev pub invariant-loop-place : goal.invariant-loop-place
invariant-loop-place l =
    l.places.items ≡ take l.place-index (composed l.first.items l.place-items)
