use Rattle.std.proofs.Common.{◌+◌, ◌*◌}
use Rattle.wires.specs.Growth.{lanes_of}
use Rattle.circuits.specs.Loops.{Saving, Within}
use Rattle.circuits.proofs.products.terms_saved.Given as goal

abbrev pub invariant-loop-place : goal.invariant-loop-place
invariant-loop-place g l =
    Saving g.W.Wires.grown g.W.Wires.possible g.W.Wires.shape g.W.Wires.ands l.fn.wires l.wires l.fn.left l.fn.right l.terms.sum l.terms.carry
    (lanes_of (g.W.Wires.shape l.fn.wires) l.fn.left) l.place
    × Within g.W.Wires.shape g.W.Wires.and_calls l.fn.wires l.wires (2 + 2 * l.place) (8 + 10 * l.place)
