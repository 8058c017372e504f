use Rattle.std.proofs.Common.{length, sym, ap, ◌∙◌}
use Rattle.twin.proofs.Lengths.{inverse_long}
use Rattle.twin.proofs.steer.first_order.Goals as goal

pub then-requires : goal.then-requires
then-requires c = ap length c.in_ok-inverse.ensures ∙ (inverse_long c.args.g.now ∙ (c.requires.g ∙ sym c.requires.h))

pub then-requires-then-steered : goal.then-requires-then-steered
then-requires-then-steered c =
    sym (ap length c.in_ok-then.ensures ∙ (c.item_laws.ensures.lengths.pick c.in_ok-inverse.field-0 c.args.h.now
    ∙ (ap length c.in_ok-inverse.ensures ∙ (inverse_long c.args.g.now ∙ c.requires.g))))
