use Rattle.std.proofs.Common.{◌≡◌}
use Rattle.tapes.specs.Order.{identity_of}
use Rattle.tapes.proofs.order.Order.identity.Given as goal

abbrev pub invariant-loop-i : goal.invariant-loop-i
invariant-loop-i l = l.places.items ≡ identity_of l.i
