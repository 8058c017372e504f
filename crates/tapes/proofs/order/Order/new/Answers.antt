use Rattle.std.proofs.Common.{◌≡◌, length, drop, ◌∙◌, arith}
use Rattle.std.proofs.lemmas.List.{take_at}
use Rattle.tapes.proofs.order.Order.new.Goals as goal

pub invariant_of-result : goal.invariant_of-result
invariant_of-result c =
    let same : c.is_order.new.places ≡ c.args.places.items = c.is_order.ensures.same ∙ c.deref_mut.ensures.value in
    let long : length c.args.places.items ≡ c.args.places.len = omega (arith, c.args.places.ok) in
    rw (same, take_at c.args.places.items (drop (length c.args.places.items) c.args.places.items) c.args.places.len long)
    (rw c.deref_mut.ensures.value at (c.is_order.ensures.order.0 c.if-is_order.true))
