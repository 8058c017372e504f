use Rattle.std.proofs.Common.{◌≡◌, drop}
use Rattle.conclave_top.specs.Bounds.{first_bound}
use Rattle.conclave_top.proofs.bounds.first_bound.Given as goal

-- no node so far has a bound
abbrev pub invariant-loop-node : goal.invariant-loop-node
invariant-loop-node l = first_bound l.nodes ≡ first_bound (drop l.node-index l.nodes)
