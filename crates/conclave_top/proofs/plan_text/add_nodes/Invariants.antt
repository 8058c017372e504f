use Rattle.std.proofs.Common.{◌≡◌, ◌++◌, drop}
use Rattle.conclave_top.specs.PlanText.{node_lines}
use Rattle.conclave_top.proofs.plan_text.add_nodes.Given as goal

-- with the lines of the other nodes the text has those of all
abbrev pub invariant-loop-number : goal.invariant-loop-number
invariant-loop-number l = l.text.items ++ node_lines l.trust.known l.number (drop l.number l.graph.nodes) ≡ l.initial.text.items ++ node_lines l.trust.known 0 l.graph.nodes
