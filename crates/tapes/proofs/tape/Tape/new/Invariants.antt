use Rattle.std.proofs.Common.{◌≡◌}
use Rattle.tapes.proofs.tape.Tape.new.Given as goal

abbrev pub invariant-loop-draw : goal.invariant-loop-draw
invariant-loop-draw l = l.tape ≡ l.yielded
