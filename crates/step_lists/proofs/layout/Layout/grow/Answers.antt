use Rattle.std.proofs.Common.{ap, subst, ◌∙◌}
use Rattle.step_lists.specs.Layout.{rows_moved}
use Rattle.step_lists.specs.Laid.{IsGrown}
use Rattle.step_lists.proofs.Moves.{grown_reveal, grown_steer}
use Rattle.step_lists.proofs.layout.Layout.grow.Goals as goal

pub returns-in-Reveal : goal.returns-in-Reveal
returns-in-Reveal g c =
    let l = c.args.self.now.now in
    subst (IsGrown c.push_moved.result c.args.self.now c.push_moved.new.self)
    (grown_reveal g.T.Task.accepts l c.args.step.now c.in-Reveal.to c.in-Reveal.moved c.in-Reveal.shown c.rows_moved-rows.result c.len-in-Reveal.result c.len-in-Reveal-2.result
    c.requires c.in-Reveal.is (c.rows_moved-rows.ensures ∙ ap (rows_moved l) c.as_slice.ensures.value) c.len-in-Reveal.ensures c.len-in-Reveal-2.ensures)
    c.push_moved.ensures

pub returns-in-Steer : goal.returns-in-Steer
returns-in-Steer g c =
    let l = c.args.self.now.now in
    subst (IsGrown c.push_lengths-in-Steer.result c.args.self.now c.push_lengths-in-Steer.new.self)
    (grown_steer g.T.Task.accepts l c.args.step.now c.in-Steer.by c.in-Steer.slot c.in-Steer.moved c.rows_moved.result c.len-in-Steer.result
    c.requires c.in-Steer.is (c.rows_moved.ensures ∙ ap (rows_moved l) c.as_slice-in-Steer.ensures.value) c.len-in-Steer.ensures)
    c.push_lengths-in-Steer.ensures
