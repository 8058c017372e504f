use Rattle.std.proofs.Common.{◌≡◌, ◌++◌, take}
use Rattle.std.specs.Int.{w64, to_be_bytes}
use Rattle.std.specs.List.{flat_map}
use Rattle.conclave_top.proofs.views.push_counted.Given as goal

-- the words so far were added behind their count
abbrev pub invariant-loop-word : goal.invariant-loop-word
invariant-loop-word l = l.bytes.items ≡ l.initial.bytes.items ++ flat_map (λ word. to_be_bytes w64 word) (take l.word-index l.words.items)
