use Rattle.std.proofs.Common.{sym}
use Rattle.step_lists.specs.Shapes.{word_lists}
use Rattle.twin.proofs.OrdersAligned.{aligning_is}
use Rattle.twin.proofs.reveal.align_rows.Goals as goal

pub returns-in-Ok-clause-order : goal.returns-in-Ok-clause-order
returns-in-Ok-clause-order c = sym (aligning_is (word_lists c.args.others) (word_lists c.args.rows) c.in-Ok.order c.in-Ok.ensures.aligned)
