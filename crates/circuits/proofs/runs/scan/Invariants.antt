use Rattle.std.proofs.Common.{◌+◌, ◌*◌, ◌^◌}
use Rattle.wires.specs.Environment.{words}
use Rattle.wires.specs.Growth.{lanes_of}
use Rattle.circuits.specs.Loops.{Building, Within}
use Rattle.circuits.specs.RunLoops.{near_folds, taken_calls, taken_cost, taken_wires, taken_word}
use Rattle.circuits.proofs.runs.scan.Given as goal

abbrev pub invariant-loop-level : goal.invariant-loop-level
invariant-loop-level g l =
    Building g.W.Wires.grown g.W.Wires.possible g.W.Wires.shape g.W.Wires.ands l.fn.wires l.wires l.folded (lanes_of (g.W.Wires.shape l.fn.wires) l.fn.joined)
    (λ v. near_folds (taken_word l.fn.fold) (2 ^ l.level) (words v l.fn.joined) (words v l.fn.column)) ((taken_cost l.fn.fold + 1) * l.level)
    × Within g.W.Wires.shape g.W.Wires.and_calls l.fn.wires l.wires ((taken_calls l.fn.fold + 1) * l.level) ((taken_wires l.fn.fold + 5) * l.level)
