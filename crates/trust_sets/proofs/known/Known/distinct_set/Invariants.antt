use Rattle.std.proofs.Common.{◌≡◌, drop}
use Rattle.std.specs.List.{fold}
use Rattle.query_graph.specs.Parties.{common_parties}
use Rattle.trust_sets.specs.Known.{distinct_set}
use Rattle.trust_sets.proofs.known.Known.distinct_set.Given as goal

-- what is left meets the set so far
abbrev pub invariant-loop-column : goal.invariant-loop-column
invariant-loop-column l = distinct_set l.self ≡ fold common_parties l.set (drop l.column-index l.self.columns)
