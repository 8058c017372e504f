use Rattle.std.proofs.Common.{◌+◌, ◌*◌, ◌≤◌, take}
use Rattle.wires.specs.Environment.{words}
use Rattle.shared_ops.specs.Groups.{numbered_lanes}
use Rattle.shared_ops.specs.Joint.{column_words}
use Rattle.shared_ops.specs.Rounds.{aggregates_calls}
use Rattle.shared_ops.specs.Wired.{Wiring}
use Rattle.shared_ops.proofs.aggregate.aggregate_all.Given as goal

abbrev pub invariant-loop-at : goal.invariant-loop-at
invariant-loop-at g l =
    Wiring g.W.Wires.grown g.W.Wires.possible g.W.Wires.shape g.W.Wires.ands l.fn.wires l.wires l.made.items l.blocks.width
    (λ k v. numbered_lanes k l.aggregates l.blocks.rows l.blocks.width (words v l.blocks.flags) (column_words v l.table)) l.at (l.at * (17 * (l.blocks.rows * l.blocks.width)))
    × (g.W.Wires.and_calls l.wires ≤ g.W.Wires.and_calls l.fn.wires + aggregates_calls (take l.at l.aggregates) l.blocks.rows)
