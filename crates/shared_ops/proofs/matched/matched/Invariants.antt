use Rattle.std.proofs.Common.{◌+◌, ◌*◌, ◌≤◌, take}
use Rattle.shared_ops.specs.Pairs.{table_in}
use Rattle.shared_ops.specs.Wired.{Building}
use Rattle.shared_ops.proofs.Matching.{pair_lanes}
use Rattle.shared_ops.proofs.matched.matched.Given as goal

abbrev pub invariant-loop-key : goal.invariant-loop-key
invariant-loop-key g l =
    Building g.W.Wires.grown g.W.Wires.possible g.W.Wires.shape g.W.Wires.ands l.fn.wires l.wires l.matched (l.left.rows * l.right.rows)
    (λ v. pair_lanes (take l.key-index l.keys) l.left.rows l.right.rows (table_in v l.left) (table_in v l.right)) (l.left.rows * l.right.rows * (7 * l.key-index + 1))
    × (g.W.Wires.and_calls l.wires ≤ g.W.Wires.and_calls l.fn.wires + (7 * l.key-index + 1))
