use Rattle.std.proofs.Common.{◌≡◌, ◌++◌, drop}
use Rattle.places.specs.Bounds.{first_uncounted, places_from}
use Rattle.places.proofs.check.place_nodes.Given as goal

-- the nodes so far are placed, and their bounds counted
abbrev pub invariant-loop-number : goal.invariant-loop-number
invariant-loop-number l = record {
  placed : places_from l.trust.known l.rewritten 0 l.graph.nodes ≡ l.places.items ++ places_from l.trust.known l.rewritten l.number (drop l.number l.graph.nodes);
  counted : first_uncounted l.trust.known l.rewritten 0 l.graph.nodes ≡ first_uncounted l.trust.known l.rewritten l.number (drop l.number l.graph.nodes);
}
