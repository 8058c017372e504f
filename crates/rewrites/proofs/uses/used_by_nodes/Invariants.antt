use Rattle.std.proofs.Common.{◌≡◌, take}
use Rattle.std.specs.List.{flat_map}
use Rattle.query_graph.specs.declared.node.Node.{Node}
use Rattle.query_graph.specs.Observers.{sources_of}
use Rattle.rewrites.proofs.uses.used_by_nodes.Given as goal

abbrev pub invariant-loop-node : goal.invariant-loop-node
invariant-loop-node l = l.used.items ≡ flat_map (λ (n : Node). sources_of n.shape) (take l.node-index l.nodes)
