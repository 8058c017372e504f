use Rattle.std.proofs.Common.{◌+◌, ◌*◌, ◌≤◌, map}
use Rattle.lanes.specs.Lanes.{lanewise}
use Rattle.wires.specs.Environment.{words}
use Rattle.wires.specs.Growth.{lanes_of}
use Rattle.circuits.specs.Folds.{masked_word}
use Rattle.circuits.specs.declared.folds.Fold.TheVariants.{Sum}
use Rattle.padded.specs.Table.{column_at}
use Rattle.shared_ops.specs.Wired.{Wiring}
use Rattle.shared_ops.proofs.zeros.masked_columns.Given as goal

abbrev pub invariant-loop-at : goal.invariant-loop-at
invariant-loop-at g l =
    Wiring g.W.Wires.grown g.W.Wires.possible g.W.Wires.shape g.W.Wires.ands l.fn.wires l.wires l.made.items (lanes_of (g.W.Wires.shape l.fn.wires) l.fn.valid)
    (λ k v. lanewise (masked_word Sum) (words v l.fn.valid) (column_at (map (words v) l.columns) k)) l.at (l.at * lanes_of (g.W.Wires.shape l.fn.wires) l.fn.valid)
    × (g.W.Wires.and_calls l.wires ≤ g.W.Wires.and_calls l.fn.wires + l.at)
