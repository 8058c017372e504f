use Rattle.std.proofs.Common.{◌≡◌, length, take}
use Rattle.lanes.specs.Lanes.{picked}
use Rattle.wires.specs.Held.{values_of}
use Rattle.wires.proofs.clear.ClearWires.gather.Given as goal

-- the words at the places so far
abbrev pub invariant-loop-place : goal.invariant-loop-place
invariant-loop-place l = (l.words.items ≡ take l.place-index (picked l.places (values_of l.self l.sources))) × (length l.words.items ≡ l.place-index)
