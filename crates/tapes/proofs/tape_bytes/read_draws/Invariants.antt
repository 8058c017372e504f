use Rattle.std.proofs.Common.{◌++◌, replicate, take}
use Rattle.tapes.specs.Runs.{needs_of}
use Rattle.tapes.proofs.Spelling.{ReadSoFar}
use Rattle.tapes.proofs.tape_bytes.read_draws.Given as goal

abbrev pub invariant-loop-run : goal.invariant-loop-run
invariant-loop-run l = ReadSoFar l.needs (needs_of (take l.run-index l.run-items)) l.bytes l.tape l.rest

abbrev pub invariant-loop-draw : goal.invariant-loop-draw
invariant-loop-draw l =
    ReadSoFar l.needs (needs_of (take l.run-index l.run-items) ++ replicate l._draw l.need) l.bytes l.tape l.rest
