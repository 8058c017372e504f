use Rattle.std.proofs.Common.{◌≡◌, take}
use Rattle.tapes.proofs.tape.Tape.copy.Given as goal

abbrev pub invariant-loop-placed : goal.invariant-loop-placed
invariant-loop-placed l = l.orders.items ≡ take l.placed-index l.placed-items
