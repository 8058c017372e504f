use Rattle.std.proofs.Common.{◌≡◌, ap, arith}
use Rattle.tapes.specs.declared.placed.PlacedOrder.{PlacedOrder}
use Rattle.tapes.proofs.LaidLemmas.{length-draws_from}
use Rattle.tapes.proofs.Standing.{cut_up, cut_down, stands_at_cut}
use Rattle.tapes.proofs.placed.orders_before.Goals as goal

pub loop-low-preserved-then-orders-middle : goal.loop-low-preserved-then-orders-middle
loop-low-preserved-then-orders-middle c =
    cut_up c.args.words.now c.args.orders.now c.args.place c.loop-low.low _ c.loop-low.high c.index-orders-middle.result c.requires.laid c.loop-low.invariant
    (omega arith) (omega arith) c.index-orders-middle.is
    (omega (arith, ap (λ (x : PlacedOrder). x.place) c.index-orders-middle.is))

pub loop-low-preserved : goal.loop-low-preserved
loop-low-preserved c =
    cut_down c.args.words.now c.args.orders.now c.args.place c.loop-low.low _ c.loop-low.high c.index-orders-middle.result c.requires.laid c.loop-low.invariant
    (omega arith) (omega arith) c.index-orders-middle.is
    (omega (arith, ap (λ (x : PlacedOrder). x.place) c.index-orders-middle.is))

pub returns : goal.returns
returns c =
    let same : c.loop-low.low ≡ c.loop-low.high = omega arith in
    stands_at_cut c.args.words.now c.args.orders.now c.args.place c.loop-low.low c.requires.laid c.requires.all
    (omega (arith, length-draws_from 0 c.args.words.now c.args.orders.now)) (rw (← same) at c.loop-low.invariant)
