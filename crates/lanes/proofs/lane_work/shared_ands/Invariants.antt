use Rattle.std.proofs.Common.{◌≡◌, take}
use Rattle.lanes.specs.Lanes.{crosses}
use Rattle.lanes.proofs.lane_work.shared_ands.Given as goal

abbrev pub invariant-loop-i : goal.invariant-loop-i
invariant-loop-i l = l.words.items ≡ take l.i (crosses l.own l.next l.other_own l.other_next)
