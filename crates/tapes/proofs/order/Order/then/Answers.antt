use Rattle.std.proofs.Common.{◌≡◌, length, take, ap, sym, ◌∙◌, arith}
use Rattle.tapes.proofs.Picks.{picked_all}
use Rattle.tapes.specs.Order.{composed}
use Rattle.tapes.proofs.OrderLemmas.{short_composed}
use Rattle.tapes.proofs.order.Order.then.Goals as goal

pub invariant_of-result : goal.invariant_of-result
invariant_of-result c =
    let first = c.self.inside.places.items in
    let next = c.next.inside.places.items in
    let all : length next ≡ c.loop-place.place-index = omega (arith, ap length c.deref-place-items.ensures.value) in
    let whole : take c.loop-place.place-index (composed first next) ≡ composed first next = picked_all next first c.loop-place.place-index (sym all) in
    let long : length next ≡ length first = ap length c.next.view_is ∙ c.requires ∙ sym (ap length c.self.view_is) in
    rw (c.loop-place.invariant, c.deref-place-items.ensures.value, whole) (short_composed first next c.self.invariant c.next.invariant long)
