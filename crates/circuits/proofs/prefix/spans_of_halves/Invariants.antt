use Rattle.std.proofs.Common.{◌+◌, ◌*◌}
use Rattle.wires.specs.Growth.{lanes_of}
use Rattle.circuits.specs.Loops.{Spanning, Within}
use Rattle.circuits.proofs.prefix.spans_of_halves.Given as goal

abbrev pub invariant-loop-level : goal.invariant-loop-level
invariant-loop-level g l =
    Spanning g.W.Wires.grown g.W.Wires.possible g.W.Wires.shape g.W.Wires.ands l.fn.wires l.wires l.fn.left l.fn.right l.spans.generate l.spans.propagate
    (lanes_of (g.W.Wires.shape l.fn.wires) l.fn.left) l.level
    × Within g.W.Wires.shape g.W.Wires.and_calls l.fn.wires l.wires (1 + l.level) (2 + l.level * (13 + l.level))
