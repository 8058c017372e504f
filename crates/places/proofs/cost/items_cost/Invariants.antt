use Rattle.std.proofs.Common.{◌≡◌, ◌*◌, ◌≤◌, sum_by, take}
use Rattle.places.specs.Cost.{item_cost}
use Rattle.places.proofs.cost.items_cost.Given as goal

abbrev pub invariant-loop-item : goal.invariant-loop-item
invariant-loop-item l = record { so_far : l.cost ≡ sum_by item_cost (take l.item-index l.items); few : l.cost ≤ 883 * l.item-index }
