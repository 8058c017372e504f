use Rattle.std.proofs.Common.{◌≡◌, ◌++◌, map, take}
use Rattle.rewrites.proofs.uses.used_nodes.Given as goal

abbrev pub invariant-loop-output : goal.invariant-loop-output
invariant-loop-output l = l.used.items ≡ l.initial.used.items ++ map (λ o. o.node) (take l.output-index l.graph.outputs)
