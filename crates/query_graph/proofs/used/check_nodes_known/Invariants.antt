use Rattle.std.proofs.Common.{◌≡◌, drop}
use Rattle.query_graph.specs.Faults.{first_fault}
use Rattle.query_graph.specs.Used.{unknown_node}
use Rattle.query_graph.proofs.used.check_nodes_known.Given as goal

-- no name so far is unknown
abbrev pub invariant-loop-name : goal.invariant-loop-name
invariant-loop-name l = first_fault (unknown_node l.line l.nodes) l.names ≡ first_fault (unknown_node l.line l.nodes) (drop l.name-index l.names)
