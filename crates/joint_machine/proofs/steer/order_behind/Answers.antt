use Rattle.std.proofs.Common.{length, sym, ◌∙◌, ap}
use Rattle.joint_machine.proofs.Steering.{inverse_long}
use Rattle.joint_machine.proofs.steer.order_behind.Goals as goal

pub then-requires : goal.then-requires
then-requires c =
    ap length c.in_ok-private.ensures ∙ (c.requires.long ∙ sym (ap length c.in_ok-inverse.ensures ∙ inverse_long c.args.drawn.now))
