use Rattle.std.proofs.Common.{◌≡◌, take}
use Rattle.lanes.specs.Lanes.{picked}
use Rattle.lanes.proofs.lane_work.pick_words.Given as goal

abbrev pub invariant-loop-place : goal.invariant-loop-place
invariant-loop-place l = l.words.items ≡ take l.place-index (picked l.places l.source)
