use Rattle.std.proofs.Common.{length, sym, ap, ◌∙◌}
use Rattle.twin.proofs.Lengths.{inverse_long}
use Rattle.twin.proofs.steer.order_behind.Goals as goal

pub then-requires : goal.then-requires
then-requires c = c.requires ∙ sym (ap length c.in_ok-inverse.ensures ∙ inverse_long c.args.drawn.now)
