use Rattle.std.proofs.Common.{◌≡◌, ◌*◌, ◌^◌, ◌≤◌, take}
use Rattle.query_graph.specs.Observers.{sources_of}
use Rattle.places.specs.Cost.{opening_cost}
use Rattle.places.proofs.cost.opening_cost.Given as goal

abbrev pub invariant-loop-index : goal.invariant-loop-index
invariant-loop-index l = record { so_far : l.cost ≡ opening_cost l.nodes l.rewritten.parts (take l.index (sources_of l.shape)); few : l.cost ≤ 2 ^ 21 * l.index }
