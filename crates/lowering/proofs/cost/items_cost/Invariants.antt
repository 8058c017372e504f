use Rattle.std.proofs.Common.{◌≡◌, ◌*◌, ◌≤◌, map, take}
use Rattle.plain_meaning.specs.Convert.{item_of}
use Rattle.shared_ops.specs.Costs.{items_cost}
use Rattle.lowering.proofs.cost.items_cost.Given as goal

abbrev pub invariant-loop-item : goal.invariant-loop-item
invariant-loop-item l = record {
  so_far : l.cost ≡ items_cost (map item_of (take l.item-index l.items));
  few : l.cost ≤ 883 * l.item-index;
}
