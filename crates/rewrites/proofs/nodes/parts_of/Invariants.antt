use Rattle.std.proofs.Common.{◌≡◌, drop}
use Rattle.rewrites.specs.Parts.{node_parts, parts_of}
use Rattle.rewrites.specs.Values.{values_behind}
use Rattle.rewrites.proofs.nodes.parts_of.Given as goal

-- the nodes so far were added
abbrev pub invariant-loop-node : goal.invariant-loop-node
invariant-loop-node l = parts_of l.nodes ≡ values_behind node_parts l.parts.items (drop l.node-index l.nodes)
