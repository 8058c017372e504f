use Rattle.std.proofs.Common.{◌≡◌, drop}
use Rattle.std.specs.List.{fold}
use Rattle.trust_sets.specs.Known.{joined_set, met_with_key}
use Rattle.trust_sets.proofs.known.Known.joined_set.Given as goal

-- what is left meets the set so far
abbrev pub invariant-loop-key : goal.invariant-loop-key
invariant-loop-key l = joined_set l.self l.right l.keys ≡ fold (met_with_key l.self l.right) l.set (drop l.key-index l.keys)
