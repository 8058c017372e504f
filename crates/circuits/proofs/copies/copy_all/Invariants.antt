use Rattle.std.proofs.Common.{◌*◌, length}
use Rattle.wires.specs.Growth.{lanes_of}
use Rattle.circuits.specs.Copies.{Copying}
use Rattle.circuits.specs.Loops.{Within}
use Rattle.circuits.proofs.copies.copy_all.Given as goal

abbrev pub invariant-loop-at : goal.invariant-loop-at
invariant-loop-at g l =
    Copying g.W.Wires.grown g.W.Wires.possible g.W.Wires.shape g.W.Wires.ands l.fn.wires l.wires l.fn.joined l.columns l.copies.items
    (lanes_of (g.W.Wires.shape l.fn.wires) l.fn.joined) (length l.flags * lanes_of (g.W.Wires.shape l.fn.wires) l.fn.joined) l.at
    × Within g.W.Wires.shape g.W.Wires.and_calls l.fn.wires l.wires (l.at * length l.flags) (l.at * (5 * length l.flags))
