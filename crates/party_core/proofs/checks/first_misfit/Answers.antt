use Rattle.std.proofs.Common.{◌<◌, length, sym, ◌∙◌}
use Rattle.step_lists.specs.Shapes.{word_lists}
use Rattle.party_core.proofs.Misfitting.{all_more, fits_more}
use Rattle.party_core.proofs.checks.first_misfit.Goals as goal

pub loop-slot-preserved : goal.loop-slot-preserved
loop-slot-preserved c =
    let ns = c.args.lengths.now in
    let xs = word_lists c.args.slots.now in
    let s = c.loop-slot.slot in
    let lt : s < length ns = c.loop-slot-test.true in
    record {
      fits = fits_more ns xs s lt (sym c.has_length.ensures.value ∙ c.if-not-has_length.false) c.loop-slot.invariant.fits;
      below = all_more xs s c.loop-slot.invariant.below (c.has_length.ensures.below c.if-not-has_length.false);
    }
