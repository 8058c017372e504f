use Rattle.std.proofs.Common.{◌≡◌, take}
use Rattle.tapes.specs.Bytes.{tape_bytes}
use Rattle.tapes.proofs.tape_bytes.write_tape.Given as goal

abbrev pub invariant-loop-draw : goal.invariant-loop-draw
invariant-loop-draw l =
    (l.bytes.items ≡ tape_bytes (take l._draw l.tape)) × (l.cursor ≡ record { draws = l.tape; place = l._draw })
