use Rattle.std.proofs.Common.{◌≡◌, take}
use Rattle.party_core.proofs.draws.words_of.Given as goal

abbrev pub invariant-loop-place : goal.invariant-loop-place
invariant-loop-place l = l.words.items ≡ take l.place-index l.places
