use Rattle.std.proofs.Common.{◌≡◌, drop}
use Rattle.std.specs.List.{fold}
use Rattle.trust_sets.specs.Known.{met_with}
use Rattle.trust_sets.proofs.known.Known.grouped_set.Given as goal

-- what is left meets the set so far
abbrev pub invariant-loop-key : goal.invariant-loop-key
invariant-loop-key l = fold (met_with l.self) l.self.rows l.keys ≡ fold (met_with l.self) l.set (drop l.key-index l.keys)
