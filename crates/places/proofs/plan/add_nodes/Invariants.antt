use Rattle.std.proofs.Common.{◌≡◌, ◌++◌, drop}
use Rattle.places.specs.PlanText.{node_lines}
use Rattle.places.proofs.plan.add_nodes.Given as goal

-- with the lines of the other nodes the text has those of all
abbrev pub invariant-loop-number : goal.invariant-loop-number
invariant-loop-number l =
    l.text.items ++ node_lines l.trust.known l.rewritten l.places l.number (drop l.number l.graph.nodes)
    ≡ l.initial.text.items ++ node_lines l.trust.known l.rewritten l.places 0 l.graph.nodes
