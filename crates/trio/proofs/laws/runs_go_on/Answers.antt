use Rattle.trio.proofs.Facts.{Facts}
use Rattle.trio.proofs.Least.{goes_on}
use Rattle.trio.proofs.Ends.{ends_as_joint}
use Rattle.trio.proofs.laws.runs_go_on.Goals as goal

pub returns : goal.returns
returns g c = record {
  goes_on = λ list slots ds r h. goes_on g.T.Task.accepts g.T.Task.answer facts list slots ds r h;
  ends = λ list slots ds r h e. ends_as_joint g.T.Task.accepts g.T.Task.answer facts list slots ds r h e;
} where
  facts : Facts g.T.Task.accepts g.T.Task.answer
  facts = record {
    machine = c.parts_are_in_machine.ensures;
    have = c.parts_have_words.ensures;
    stages = c.stages_hold.ensures;
    fit = c.fronts_fit.ensures;
    grow = c.fronts_grow.ensures;
  }
