use Rattle.std.proofs.Common.{sym, ap, ◌∙◌}
use Rattle.step_lists.specs.Layout.{count_in}
use Rattle.party_core.proofs.Placed.{slot_kept}
use Rattle.party_core.proofs.stages.slot_rows.Goals as goal

pub shape-requires : goal.shape-requires
shape-requires g c = (slot_kept g.T.Task.answer c.args.list.now c.args._place c.args.party c.args.slot c.prefix_keeps_layout.ensures c.requires).0

pub returns-in-Words : goal.returns-in-Words
returns-in-Words g c =
    sym (ap count_in c.in-Words.is)
    ∙ ap count_in (c.shape.ensures ∙ (slot_kept g.T.Task.answer c.args.list.now c.args._place c.args.party c.args.slot c.prefix_keeps_layout.ensures c.requires).1)

pub returns-in-OrderOf : goal.returns-in-OrderOf
returns-in-OrderOf g c =
    sym (ap count_in c.in-OrderOf.is)
    ∙ ap count_in (c.shape.ensures ∙ (slot_kept g.T.Task.answer c.args.list.now c.args._place c.args.party c.args.slot c.prefix_keeps_layout.ensures c.requires).1)
