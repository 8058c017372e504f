use Rattle.std.proofs.Common.{◌≡◌, drop}
use Rattle.trust_sets.specs.Faults.{nodes_fault}
use Rattle.trust_sets.proofs.check.nodes_fault.Given as goal

-- no node so far has a fault
abbrev pub invariant-loop-number : goal.invariant-loop-number
invariant-loop-number l = nodes_fault l.graph l.trust.known 0 l.graph.nodes ≡ nodes_fault l.graph l.trust.known l.number (drop l.number l.graph.nodes)
