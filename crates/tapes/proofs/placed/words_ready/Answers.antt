use Rattle.std.proofs.Common.{◌≡◌, ◌+◌, ◌∷◌, List, length, drop, ap, subst, arith}
use Rattle.tapes.specs.declared.placed.PlacedOrder.{PlacedOrder}
use Rattle.tapes.specs.Laid.{ArePlaced}
use Rattle.tapes.proofs.LaidLemmas.{placed_next, placed_room}
use Rattle.tapes.proofs.Standing.{drop_at_read}
use Rattle.tapes.proofs.placed.words_ready.Goals as goal

pub overflow_sub-result : goal.overflow_sub-result
overflow_sub-result c =
    let o = c.index-orders-passed.result in
    let os = c.args.orders.now in
    let k = c.args.passed in
    let all = length c.args.words.now + length os in
    let left : drop k os ≡ o ∷ drop (k + 1) os = drop_at_read os k o c.if-passed-orders.true c.index-orders-passed.is in
    let next = placed_next c.args.place all o (drop (k + 1) os) (subst (λ (xs : List PlacedOrder). ArePlaced c.args.place all xs) left c.requires.placed) in
    omega (arith, next.0, ap (λ (x : PlacedOrder). x.place) c.index-orders-passed.is)

pub overflow_sub-result-else-passed-orders-2 : goal.overflow_sub-result-else-passed-orders-2
overflow_sub-result-else-passed-orders-2 c =
    omega (arith, placed_room c.args.place (length c.args.words.now + length c.args.orders.now) (drop c.args.passed c.args.orders.now) c.requires.placed, c.requires.short)
