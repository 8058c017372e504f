use Rattle.std.proofs.Common.{◌≤◌, map}
use Rattle.wires.specs.Environment.{all_words}
use Rattle.shared_ops.specs.Joint.{column_wire, joint_count}
use Rattle.shared_ops.specs.Wired.{Wiring}
use Rattle.shared_ops.proofs.concat.appended_columns.Given as goal

abbrev pub invariant-loop-column : goal.invariant-loop-column
invariant-loop-column g l =
    Wiring g.W.Wires.grown g.W.Wires.possible g.W.Wires.shape g.W.Wires.ands l.fn.wires l.wires l.made.items (joint_count l.tables) (λ k v. all_words v (map (column_wire k) l.tables)) l.column 0
    × (g.W.Wires.and_calls l.wires ≤ g.W.Wires.and_calls l.fn.wires)
