use Rattle.std.proofs.Common.{◌-◌}
use Rattle.tapes.proofs.Standing.{IsCut}
use Rattle.tapes.proofs.placed.orders_before.Given as goal

abbrev pub invariant-loop-low : goal.invariant-loop-low
invariant-loop-low l = IsCut l.orders l.place l.low l.high

abbrev pub decreases-loop-low : goal.decreases-loop-low
decreases-loop-low l = l.high - l.low
