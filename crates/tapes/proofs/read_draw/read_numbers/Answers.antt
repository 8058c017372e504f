use Rattle.std.proofs.Common.{◌*◌, ◌+◌, arith}
use Rattle.tapes.proofs.Spelling.{spelled_more, small_push}
use Rattle.tapes.proofs.read_draw.read_numbers.Goals as goal

pub loop-i-preserved : goal.loop-i-preserved
loop-i-preserved c = (
  omega (arith, c.in_ok-push.ensures.len, c.loop-i.invariant.0),
  rw c.in_ok-push.ensures.items (small_push c.loop-i.numbers.items c.read_number.result c.loop-i.invariant.1 c.read_number.type_inv),
  rw c.in_ok-push.ensures.items
      (spelled_more c.args.bytes.now c.loop-i.numbers.items c.read_number.result (4 * c.loop-i.i) (4 * (c.loop-i.i + 1)) (omega arith)
      c.loop-i.invariant.2 (rw c.after.ensures at c.read_number.ensures)),
)
