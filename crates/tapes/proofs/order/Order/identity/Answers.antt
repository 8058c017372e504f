use Rattle.std.proofs.Common.{refl, arith}
use Rattle.tapes.proofs.OrderLemmas.{identity_more, short_identity}
use Rattle.tapes.proofs.order.Order.identity.Goals as goal

pub loop-i-preserved : goal.loop-i-preserved
loop-i-preserved c = rw (identity_more c.loop-i.i, c.in_ok-push.ensures.items, c.loop-i.invariant) refl

pub invariant_of-result : goal.invariant_of-result
invariant_of-result c = rw c.loop-i.invariant (short_identity c.loop-i.i (omega arith))
