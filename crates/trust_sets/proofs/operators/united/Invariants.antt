use Rattle.std.proofs.Common.{◌≡◌, drop}
use Rattle.std.specs.List.{fold}
use Rattle.query_graph.specs.Parties.{no_party, united_parties}
use Rattle.trust_sets.proofs.operators.united.Given as goal

-- what is left joins the set so far
abbrev pub invariant-loop-set : goal.invariant-loop-set
invariant-loop-set l = fold united_parties no_party l.sets ≡ fold united_parties l.parties (drop l.set-index l.sets)
