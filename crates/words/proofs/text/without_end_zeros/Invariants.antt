use Rattle.std.proofs.Common.{◌≡◌, ◌≤◌, take}
use Rattle.words.specs.Texts.{without_end_zeros}
use Rattle.words.proofs.text.without_end_zeros.Given as goal

-- so many bytes are those so far without the zeros at their end
abbrev pub invariant-loop-index : goal.invariant-loop-index
invariant-loop-index l = (take l.length l.bytes ≡ without_end_zeros (take l.index l.bytes)) × (l.length ≤ l.index)
