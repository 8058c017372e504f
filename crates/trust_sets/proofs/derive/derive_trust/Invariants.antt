use Rattle.std.proofs.Common.{◌≡◌, drop, length}
use Rattle.trust_sets.specs.Known.{known_behind, known_nodes}
use Rattle.trust_sets.specs.Release.{withheld_behind, withheld_nodes}
use Rattle.trust_sets.proofs.derive.derive_trust.Given as goal

-- the nodes so far were added
abbrev pub invariant-loop-number : goal.invariant-loop-number
invariant-loop-number l = record {
  known : known_nodes l.graph.nodes ≡ known_behind l.trust.known (drop l.number l.graph.nodes);
  withheld : withheld_nodes l.graph.nodes ≡ withheld_behind l.trust.withheld (drop l.number l.graph.nodes);
  numbered : length l.trust.withheld ≡ l.number;
}
