use Rattle.std.proofs.Common.{get_or, ap, arith}
use Rattle.tapes.specs.Order.{IsOrder}
use Rattle.tapes.proofs.OrderLemmas.{short_from_numbers}
use Rattle.tapes.proofs.marking.is_order.Goals as goal

pub returns-then-all_below-clause-order : goal.returns-then-all_below-clause-order
returns-then-all_below-clause-order c = (
  λ apart.
      let order : IsOrder c.args.places.now = record { below = c.all_below.ensures.0 c.if-all_below.true; apart = c.none_twice.ensures.apart.0 apart } in
      record {
        order = order;
        short = short_from_numbers c.args.places.now order
            (λ k h. omega (arith, c.type_inv.places k, ap (λ xs. get_or xs k 0) c.none_twice.ensures.same));
      },
  λ short. c.none_twice.ensures.apart.1 short.order.apart,
)
