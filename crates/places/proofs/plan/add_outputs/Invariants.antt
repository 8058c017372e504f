use Rattle.std.proofs.Common.{◌≡◌, ◌++◌, take}
use Rattle.std.specs.List.{flat_map}
use Rattle.places.specs.PlanText.{output_line}
use Rattle.places.proofs.plan.add_outputs.Given as goal

-- the lines of the outputs so far were added
abbrev pub invariant-loop-output : goal.invariant-loop-output
invariant-loop-output l = l.text.items ≡ l.initial.text.items ++ flat_map (output_line l.graph l.rewritten) (take l.output-index l.graph.outputs)
