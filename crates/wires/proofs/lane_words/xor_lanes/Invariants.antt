use Rattle.std.proofs.Common.{◌≡◌, length, take, bit_xor}
use Rattle.lanes.specs.Lanes.{lanewise}
use Rattle.wires.proofs.lane_words.xor_lanes.Given as goal

-- the lanes so far
abbrev pub invariant-loop-lane : goal.invariant-loop-lane
invariant-loop-lane l = (l.words.items ≡ lanewise bit_xor (take l.lane l.left) (take l.lane l.right)) × (length l.words.items ≡ l.lane)
