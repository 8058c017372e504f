use Rattle.std.proofs.Common.{◌≡◌, drop}
use Rattle.lowering.specs.Unbuilt.{first_written}
use Rattle.lowering.proofs.unbuilt.first_written.Given as goal

-- on no node so far anything is written
abbrev pub invariant-loop-node : goal.invariant-loop-node
invariant-loop-node l = first_written l.nodes ≡ first_written (drop l.node-index l.nodes)
