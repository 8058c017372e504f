use Rattle.std.proofs.Common.{arith}
use Rattle.twin.proofs.reveal.earlier_order.Goals as goal

pub overflow_cast-len : goal.overflow_cast-len
overflow_cast-len c = omega (arith, c.requires.short, c.len.ensures)
