use Rattle.std.proofs.Common.{◌≡◌, take}
use Rattle.places.proofs.total.small_words.Given as goal

abbrev pub invariant-loop-word : goal.invariant-loop-word
invariant-loop-word l = l.small.items ≡ take l.word-index l.words
