use Rattle.std.proofs.Common.{◌++◌, replicate, take}
use Rattle.tapes.specs.Runs.{needs_of}
use Rattle.tapes.proofs.Making.{MadeSoFar}
use Rattle.tapes.proofs.make.make_tape.Given as goal

abbrev pub invariant-loop-run : goal.invariant-loop-run
invariant-loop-run l = MadeSoFar l.fn.seed l.fn.tape (needs_of (take l.run-index l.run-items)) l.made l.words

abbrev pub invariant-loop-draw : goal.invariant-loop-draw
invariant-loop-draw l =
    MadeSoFar l.fn.seed l.fn.tape (needs_of (take l.run-index l.run-items) ++ replicate l._draw l.run.need) l.made l.words
