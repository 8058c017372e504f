use Rattle.std.proofs.Common.{◌<◌, length, sym, ◌∙◌}
use Rattle.step_lists.specs.Shapes.{word_lists}
use Rattle.joint_machine.proofs.Misfitting.{fits_more}
use Rattle.joint_machine.proofs.joint.first_misfit.Goals as goal

pub loop-slot-preserved : goal.loop-slot-preserved
loop-slot-preserved c =
    let ns = c.args.lengths.now in
    let xs = word_lists c.args.slots.now in
    let s = c.loop-slot.slot in
    let lt : s < length ns = c.loop-slot-test.true in
    fits_more ns xs s lt (sym c.has_length.ensures ∙ c.if-not-has_length.false) c.loop-slot.invariant
