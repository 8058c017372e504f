use Rattle.step_lists.proofs.Facts.{Facts}
use Rattle.step_lists.proofs.FitsRun.{reveal_is_one}
use Rattle.step_lists.proofs.laws.reveals_have_one_order.Goals as goal

pub returns : goal.returns
returns g c = reveal_is_one facts where
  facts : Facts
  facts = record {
    stay = c.lane_laws.ensures.words_stay;
    lengths = c.item_laws.ensures.lengths;
    behind = c.item_laws.ensures.parts;
    closed = c.order_laws.ensures.closed;
    composed = c.order_laws.ensures.applied;
  }
