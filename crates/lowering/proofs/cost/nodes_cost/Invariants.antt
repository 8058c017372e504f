use Rattle.std.proofs.Common.{◌≡◌, ◌*◌, ◌^◌, ◌≤◌, map, take}
use Rattle.std.specs.Prelude.{sum}
use Rattle.lowering.specs.Costs.{node_cost}
use Rattle.lowering.proofs.cost.nodes_cost.Given as goal

abbrev pub invariant-loop-node : goal.invariant-loop-node
invariant-loop-node l = record {
  so_far : l.cost ≡ sum (map (node_cost l.nodes) (take l.node-index l.nodes));
  few : l.cost ≤ 2 ^ 104 * l.node-index;
}
