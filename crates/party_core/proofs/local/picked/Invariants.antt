use Rattle.std.proofs.Common.{◌≡◌, take}
use Rattle.lanes.specs.Lanes.{picked}
use Rattle.party_core.proofs.local.picked.Given as goal

abbrev pub invariant-loop-place : goal.invariant-loop-place
invariant-loop-place l = l.made.items ≡ picked (take l.place-index l.places) l.words
