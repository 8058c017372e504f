use Rattle.std.proofs.Common.{◌+◌, ◌-◌, ◌*◌, length}
use Rattle.wires.specs.Growth.{lanes_of}
use Rattle.circuits.specs.Loops.{Within}
use Rattle.circuits.specs.RunLoops.{Flagging}
use Rattle.circuits.proofs.run_flags.level_flags.Given as goal

abbrev pub invariant-loop-places : goal.invariant-loop-places
invariant-loop-places g l =
    Flagging g.W.Wires.grown g.W.Wires.possible g.W.Wires.shape g.W.Wires.ands l.fn.wires l.wires l.fn.joined l.flag l.flags.items (lanes_of (g.W.Wires.shape l.fn.wires) l.fn.joined) l.places
    × Within g.W.Wires.shape g.W.Wires.and_calls l.fn.wires l.wires (length l.flags.items) (3 + 2 * length l.flags.items)

abbrev pub decreases-loop-places : goal.decreases-loop-places
decreases-loop-places g l = l.lanes - l.places
