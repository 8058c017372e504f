use Rattle.std.proofs.Common.{◌≡◌, ◌++◌, take, drop}
use Rattle.lanes.specs.Lanes.{xors}
use Rattle.lanes.proofs.lane_work.xor_into.Given as goal

abbrev pub invariant-loop-i : goal.invariant-loop-i
invariant-loop-i l = l.target ≡ take l.i (xors l.fn.target l.other) ++ drop l.i l.fn.target
