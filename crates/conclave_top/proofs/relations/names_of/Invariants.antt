use Rattle.std.proofs.Common.{◌≡◌, map, take, string_bytes}
use Rattle.conclave_top.specs.Relations.{file_of}
use Rattle.conclave_top.proofs.relations.names_of.Given as goal

-- the names so far
abbrev pub invariant-loop-node : goal.invariant-loop-node
invariant-loop-node l = map string_bytes l.names.items ≡ map (λ node. file_of l.folder node.now) (take l.node-index l.relations)
