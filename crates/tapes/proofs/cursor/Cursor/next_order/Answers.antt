use Rattle.std.proofs.Common.{◌<◌, length, sym, ◌∙◌, ap, arith, Some}
use Rattle.tapes.specs.declared.placed.PlacedOrder.{PlacedOrder}
use Rattle.tapes.specs.Reading.{order_at}
use Rattle.tapes.proofs.Standing.{after_order}
use Rattle.tapes.proofs.ReadingLemmas.{order_here, no_order_at_end, no_order_yet, order_room}
use Rattle.tapes.proofs.cursor.Cursor.next_order.Goals as goal

pub returns-then-self-clause-value : goal.returns-then-self-clause-value
returns-then-self-clause-value c =
    let i = c.self.inside in
    sym (no_order_at_end i.words.now i.orders.now i.place i.passed c.self.invariant (omega arith)) ∙ ap order_at c.self.view_is

pub returns-then-next-self-clause-value : goal.returns-then-next-self-clause-value
returns-then-next-self-clause-value c =
    let i = c.self.inside in
    let o = c.index-self-self.result in
    let within : i.passed < length i.orders.now = omega (arith, c.self.invariant.short) in
    sym
    (no_order_yet i.words.now i.orders.now i.place i.passed o c.self.invariant within c.index-self-self.is
    (λ e. c.if-next-self.true (sym (ap (λ (x : PlacedOrder). x.place) c.index-self-self.is) ∙ e)))
    ∙ ap order_at c.self.view_is

pub overflow_add-self : goal.overflow_add-self
overflow_add-self c =
    let i = c.self.inside in
    let within : i.passed < length i.orders.now = omega (arith, c.self.invariant.short) in
    omega (arith, c.self.invariant.all, order_room i.words.now i.orders.now i.place i.passed c.self.invariant within)

pub invariant_of-self : goal.invariant_of-self
invariant_of-self c =
    let i = c.self.inside in
    let within : i.passed < length i.orders.now = omega (arith, c.self.invariant.short) in
    after_order i.words.now i.orders.now i.place i.passed c.index-self-self.result c.self.invariant within c.index-self-self.is
    (ap (λ (x : PlacedOrder). x.place) c.index-self-self.is ∙ c.if-next-self.false)

pub returns-clause-value : goal.returns-clause-value
returns-clause-value c =
    let i = c.self.inside in
    let o = c.index-self-self.result in
    let within : i.passed < length i.orders.now = omega (arith, c.self.invariant.short) in
    ap (λ (x : PlacedOrder). Some x.order) (sym c.index-self-self.is)
    ∙ sym
    (order_here i.words.now i.orders.now i.place i.passed o c.self.invariant within c.index-self-self.is
    (ap (λ (x : PlacedOrder). x.place) c.index-self-self.is ∙ c.if-next-self.false))
    ∙ ap order_at c.self.view_is
