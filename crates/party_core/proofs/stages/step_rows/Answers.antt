use Rattle.std.proofs.Common.{IsTrue, sym, subst}
use Rattle.step_lists.specs.Rules.{move_together}
use Rattle.party_core.specs.Holding.{layout_at}
use Rattle.party_core.proofs.Placed.{and_made, share_made, reveal_made, steer_made, tell_made}
use Rattle.party_core.proofs.stages.step_rows.Goals as goal

pub register_rows-requires : goal.register_rows-requires
register_rows-requires g c =
    and_made g.T.Task.accepts c.args.list.now c.args.place c.args.step.now c.in-And.left c.in-And.right c.steps.ensures.well_formed c.requires c.in-And.is

pub slot_rows-requires : goal.slot_rows-requires
slot_rows-requires g c =
    share_made g.T.Task.accepts c.args.list.now c.args.place c.args.step.now c.in-Share.party c.in-Share.slot c.steps.ensures.well_formed c.requires c.in-Share.is

pub moved_rows-requires : goal.moved_rows-requires
moved_rows-requires g c =
    subst (λ moved. IsTrue (move_together (layout_at c.args.list.now c.args.place) moved)) (sym c.as_slice.ensures.value)
    (reveal_made g.T.Task.accepts c.args.list.now c.args.place c.args.step.now c.in-Reveal.to c.in-Reveal.moved c.in-Reveal.shown c.steps.ensures.well_formed c.requires c.in-Reveal.is)

pub moved_rows-requires-in-Steer : goal.moved_rows-requires-in-Steer
moved_rows-requires-in-Steer g c =
    subst (λ moved. IsTrue (move_together (layout_at c.args.list.now c.args.place) moved)) (sym c.as_slice-in-Steer.ensures.value)
    (steer_made g.T.Task.accepts c.args.list.now c.args.place c.args.step.now c.in-Steer.by c.in-Steer.slot c.in-Steer.moved c.steps.ensures.well_formed c.requires c.in-Steer.is)

pub slot_rows-requires-in-Tell : goal.slot_rows-requires-in-Tell
slot_rows-requires-in-Tell g c =
    tell_made g.T.Task.accepts c.args.list.now c.args.place c.args.step.now c.in-Tell.source c.in-Tell.target c.in-Tell.slot c.steps.ensures.well_formed c.requires c.in-Tell.is
