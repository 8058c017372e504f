use Rattle.std.proofs.Common.{sym, subst}
use Rattle.lowering.specs.Compiled.{IsPlanOf}
use Rattle.lowering.specs.Plan.{Plan}
use Rattle.lowering.proofs.Finishing.{lowered_correct, lowered_shows, lowered_placed}
use Rattle.lowering.proofs.compiler.compile.Goals as goal

pub returns : goal.returns
returns c =
    let accepted = c.in_ok-accepted.accepted in
    let lowered = c.in_ok-lowered.lowered in
    let whole = c.in_ok-lowered.ensures in
    let plan : Plan = record { text = c.in_ok-text.text.items; graph = accepted.graph; list = lowered.list; ends = lowered.ends.items; answers = lowered.answers.items } in
    let shows = lowered_shows c.padded_fits.ensures plan whole.parts whole.nodes whole.outputs whole.lowered in
    subst (IsPlanOf c.args.text.now) (sym c.new.ensures)
    (record {
      text_is = c.in_ok-text.ensures.items;
      accepted = c.in_ok-accepted.ensures.0;
      built = sym c.in_default.ensures;
      correct = lowered_correct c.padded_fits.ensures plan whole.parts whole.nodes whole.outputs whole.lowered;
      shows = shows;
      isolated = c.showing_answers_isolates.ensures plan c.steps.ensures.well_formed whole.lowered.first shows;
      placed = lowered_placed plan whole.parts whole.nodes whole.outputs whole.lowered;
    })
