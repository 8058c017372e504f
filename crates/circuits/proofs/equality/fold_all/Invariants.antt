use Rattle.std.proofs.Common.{◌*◌}
use Rattle.lanes.specs.Fold.{folded_word}
use Rattle.lanes.specs.Lanes.{lanewise1}
use Rattle.wires.specs.Environment.{words}
use Rattle.wires.specs.Growth.{lanes_of}
use Rattle.circuits.specs.Loops.{Building, Within}
use Rattle.circuits.proofs.equality.fold_all.Given as goal

abbrev pub invariant-loop-level : goal.invariant-loop-level
invariant-loop-level g l =
    Building g.W.Wires.grown g.W.Wires.possible g.W.Wires.shape g.W.Wires.ands l.fn.wires l.wires l.folded (lanes_of (g.W.Wires.shape l.fn.wires) l.fn.wire)
    (λ v. lanewise1 (folded_word l.level) (words v l.fn.wire)) l.level
    × Within g.W.Wires.shape g.W.Wires.and_calls l.fn.wires l.wires l.level (2 * l.level)
