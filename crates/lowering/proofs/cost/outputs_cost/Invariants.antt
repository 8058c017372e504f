use Rattle.std.proofs.Common.{◌≡◌, ◌*◌, ◌^◌, ◌≤◌, map, take}
use Rattle.std.specs.Prelude.{sum}
use Rattle.lowering.specs.Costs.{output_cost}
use Rattle.lowering.proofs.cost.outputs_cost.Given as goal

abbrev pub invariant-loop-output : goal.invariant-loop-output
invariant-loop-output l = record {
  so_far : l.cost ≡ sum (map (output_cost l.nodes) (take l.output-index l.outputs));
  few : l.cost ≤ 2 ^ 21 * l.output-index;
}
