use Rattle.tapes.proofs.Marks.{Marks}
use Rattle.tapes.proofs.marking.mark.Given as goal

abbrev pub invariant-loop-i : goal.invariant-loop-i
invariant-loop-i l = Marks l.fn.places l.places l.i
