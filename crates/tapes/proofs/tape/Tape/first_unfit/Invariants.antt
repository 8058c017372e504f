use Rattle.std.proofs.Common.{◌++◌, replicate, take}
use Rattle.tapes.specs.Runs.{needs_of}
use Rattle.tapes.proofs.Fitting.{FitsSoFar}
use Rattle.tapes.proofs.tape.Tape.first_unfit.Given as goal

abbrev pub invariant-loop-run : goal.invariant-loop-run
invariant-loop-run l = FitsSoFar l.needs (needs_of (take l.run-index l.run-items)) l.self l.cursor

abbrev pub invariant-loop-draw : goal.invariant-loop-draw
invariant-loop-draw l = FitsSoFar l.needs (needs_of (take l.run-index l.run-items) ++ replicate l._draw l.need) l.self l.cursor
