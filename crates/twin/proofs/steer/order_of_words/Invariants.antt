use Rattle.std.proofs.Common.{◌≡◌, take}
use Rattle.twin.proofs.steer.order_of_words.Given as goal

abbrev pub invariant-loop-word : goal.invariant-loop-word
invariant-loop-word l = l.places.items ≡ take l.word-index l.words
