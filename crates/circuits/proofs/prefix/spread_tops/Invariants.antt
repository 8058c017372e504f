use Rattle.std.proofs.Common.{◌*◌}
use Rattle.lanes.specs.Lanes.{lanewise1}
use Rattle.lanes.specs.Prefix.{spread_down}
use Rattle.wires.specs.Environment.{words}
use Rattle.wires.specs.Growth.{lanes_of}
use Rattle.circuits.specs.Loops.{Building, Within}
use Rattle.circuits.proofs.prefix.spread_tops.Given as goal

abbrev pub invariant-loop-step : goal.invariant-loop-step
invariant-loop-step g l =
    Building g.W.Wires.grown g.W.Wires.possible g.W.Wires.shape g.W.Wires.ands l.fn.wires l.wires l.spread (lanes_of (g.W.Wires.shape l.fn.wires) l.fn.tops)
    (λ v. lanewise1 (spread_down l.step) (words v l.fn.tops)) 0
    × Within g.W.Wires.shape g.W.Wires.and_calls l.fn.wires l.wires 0 (2 * l.step)
