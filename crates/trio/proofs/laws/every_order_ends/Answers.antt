use Rattle.trio.proofs.Facts.{Facts}
use Rattle.trio.proofs.Whole.{all_end}
use Rattle.trio.proofs.laws.every_order_ends.Goals as goal

pub returns : goal.returns
returns g c = λ list slots ds r turns h.
    all_end g.T.Task.accepts g.T.Task.answer facts c.move_laws.ensures c.item_laws.ensures.parts list slots ds
    (c.link_laws.ensures.words list slots ds h.well_formed h.fits) turns r h where
      facts : Facts g.T.Task.accepts g.T.Task.answer
      facts = record {
        machine = c.parts_are_in_machine.ensures;
        have = c.parts_have_words.ensures;
        stages = c.stages_hold.ensures;
        fit = c.fronts_fit.ensures;
        grow = c.fronts_grow.ensures;
      }
