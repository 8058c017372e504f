use Rattle.std.proofs.Common.{◌≡◌, drop}
use Rattle.trust_sets.specs.Faults.{outputs_fault}
use Rattle.trust_sets.proofs.check.outputs_fault.Given as goal

-- no output so far has a fault
abbrev pub invariant-loop-output : goal.invariant-loop-output
invariant-loop-output l = outputs_fault l.withheld l.outputs ≡ outputs_fault l.withheld (drop l.output-index l.outputs)
