use Rattle.std.proofs.Common.{◌+◌, ◌*◌, ◌≤◌, take}
use Rattle.shared_ops.specs.Costs.{items_cost}
use Rattle.shared_ops.specs.Joint.{column_words}
use Rattle.shared_ops.specs.Lanes.{lanes_of_item}
use Rattle.shared_ops.specs.Rounds.{items_calls}
use Rattle.shared_ops.specs.Wired.{Wiring}
use Rattle.shared_ops.proofs.select.item_wires.Given as goal

abbrev pub invariant-loop-at : goal.invariant-loop-at
invariant-loop-at g l =
    Wiring g.W.Wires.grown g.W.Wires.possible g.W.Wires.shape g.W.Wires.ands l.fn.wires l.wires l.columns.items l.table.rows
    (λ k v. lanes_of_item k l.items l.table.rows (column_words v l.table)) l.at (l.table.rows * items_cost (take l.at l.items))
    × (g.W.Wires.and_calls l.wires ≤ g.W.Wires.and_calls l.fn.wires + items_calls (take l.at l.items))
