use Rattle.std.proofs.Common.{sym, subst}
use Rattle.joint_machine.specs.Left.{AreNext, lefts, needs_share}
use Rattle.joint_machine.proofs.machine.Machine.step_share.Goals as goal

pub draw_share-requires : goal.draw_share-requires
draw_share-requires c = subst (λ n. AreNext (needs_share c.args.party n) (lefts c.args.tapes.now)) (sym c.count_in.ensures) c.requires.draws
