use Rattle.std.proofs.Common.{◌≡◌, take}
use Rattle.std.specs.Prelude.{slice_index_or}
use Rattle.std.specs.List.{flat_map}
use Rattle.step_lists.specs.Part.{no_pair}
use Rattle.party_core.proofs.reveal.shown_words.Given as goal

abbrev pub invariant-loop-place : goal.invariant-loop-place
invariant-loop-place l = l.words.items ≡ flat_map (λ k. (slice_index_or l.pairs k no_pair).following) (take l.place-index l.shown)
