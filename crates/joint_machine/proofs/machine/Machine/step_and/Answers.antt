use Rattle.std.proofs.Common.{sym, subst}
use Rattle.step_lists.specs.Draws.{needs_each}
use Rattle.joint_machine.specs.Left.{AreNext, lefts}
use Rattle.joint_machine.proofs.machine.Machine.step_and.Goals as goal

pub draw_masks-masks-requires : goal.draw_masks-masks-requires
draw_masks-masks-requires c = subst (λ n. AreNext (needs_each n) (lefts c.args.tapes.now)) (sym c.rows.ensures) c.requires.draws
