use Rattle.std.proofs.Common.{◌≤◌, length, get_or}
use Rattle.lanes.specs.Lanes.{picked}
use Rattle.padded.specs.Table.{column_at}
use Rattle.shared_ops.specs.Joint.{column_words}
use Rattle.shared_ops.specs.Wired.{Wiring}
use Rattle.shared_ops.proofs.join.columns_at.Given as goal

abbrev pub invariant-loop-at : goal.invariant-loop-at
invariant-loop-at g l =
    Wiring g.W.Wires.grown g.W.Wires.possible g.W.Wires.shape g.W.Wires.ands l.fn.wires l.wires l.made.items (length l.places)
    (λ k v. picked l.places (column_at (column_words v l.table) (get_or l.numbers k 0))) l.at 0
    × (g.W.Wires.and_calls l.wires ≤ g.W.Wires.and_calls l.fn.wires)
