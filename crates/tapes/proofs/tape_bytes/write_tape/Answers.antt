use Rattle.std.proofs.Common.{◌<◌, length, true, ap, ◌∙◌, arith}
use Rattle.tapes.specs.Reading.{moved_past}
use Rattle.tapes.proofs.DrawBytes.{bytes_one}
use Rattle.tapes.proofs.tape_bytes.write_tape.Goals as goal

pub loop-draw-preserved : goal.loop-draw-preserved
loop-draw-preserved c =
    let within : c.loop-draw._draw < length c.args.tape.now = omega (arith, c.len-draw-end.ensures.value) in (
      bytes_one c.args.tape.now c.loop-draw._draw c.loop-draw.bytes.items c.push_next.new.bytes.items within c.loop-draw.invariant.0
          (rw c.loop-draw.invariant.1 at c.in_ok-push_next.ensures.bytes),
      c.in_ok-push_next.ensures.moves ∙ ap (λ r. moved_past r true) c.loop-draw.invariant.1,
    )
