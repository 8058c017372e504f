use Rattle.std.proofs.Common.{◌≡◌, map, take}
use Rattle.plain_meaning.specs.Fits.{relations}
use Rattle.conclave_top.proofs.relations.relations_of.Given as goal

-- the relations so far
abbrev pub invariant-loop-node : goal.invariant-loop-node
invariant-loop-node l = map (λ node. node.now) l.relations.items ≡ relations (take l.node-index l.graph.nodes)
