use Rattle.step_lists.proofs.Facts.{Facts}
use Rattle.step_lists.proofs.FitsRun.{values_fit}
use Rattle.step_lists.proofs.laws.values_have_shapes.Goals as goal

pub returns : goal.returns
returns g c = values_fit g.T.Task.accepts g.T.Task.answer facts g.met.T.Task.shaped where
  facts : Facts
  facts = record {
    stay = c.lane_laws.ensures.words_stay;
    lengths = c.item_laws.ensures.lengths;
    behind = c.item_laws.ensures.parts;
    closed = c.order_laws.ensures.closed;
    composed = c.order_laws.ensures.applied;
  }
