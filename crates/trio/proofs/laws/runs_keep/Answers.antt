use Rattle.trio.proofs.Facts.{Facts}
use Rattle.trio.proofs.Starting.{run_starts}
use Rattle.trio.proofs.Keeping.{order_fine}
use Rattle.trio.proofs.Whole.{keeps, lowers}
use Rattle.trio.proofs.laws.runs_keep.Goals as goal

pub returns : goal.returns
returns g c = record {
  starts = λ list slots ds well s t. run_starts g.T.Task.accepts g.T.Task.answer c.move_laws.ensures list slots ds well s t;
  steps = λ list slots ds r v h.
      keeps g.T.Task.accepts g.T.Task.answer facts c.move_laws.ensures c.item_laws.ensures.parts list slots ds (c.link_laws.ensures.words list slots ds h.well_formed h.fits) r v h;
  honest = λ list slots ds r v q n h e i. order_fine g.T.Task.accepts g.T.Task.answer facts c.move_laws.ensures list slots ds r h v q n e i;
  lowers = λ list slots ds r v h e.
      lowers g.T.Task.accepts g.T.Task.answer facts c.move_laws.ensures c.item_laws.ensures.parts list slots ds (c.link_laws.ensures.words list slots ds h.well_formed h.fits) r v h e;
} where
  facts : Facts g.T.Task.accepts g.T.Task.answer
  facts = record {
    machine = c.parts_are_in_machine.ensures;
    have = c.parts_have_words.ensures;
    stages = c.stages_hold.ensures;
    fit = c.fronts_fit.ensures;
    grow = c.fronts_grow.ensures;
  }
