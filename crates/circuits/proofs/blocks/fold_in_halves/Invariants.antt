use Rattle.std.proofs.Common.{◌+◌, ◌*◌}
use Rattle.circuits.specs.Folds.{combine_calls, combine_cost, combine_wires, combined_word}
use Rattle.circuits.proofs.BlockLevels.{HalvingSteps}
use Rattle.circuits.proofs.BlockSteps.{FoldingBlocks}
use Rattle.circuits.proofs.blocks.fold_in_halves.Given as goal

abbrev pub invariant-loop-left : goal.invariant-loop-left
invariant-loop-left g l =
    FoldingBlocks g.W.Wires.grown g.W.Wires.possible g.W.Wires.shape g.W.Wires.ands l.fn.wires l.wires (combined_word l.fn.fold) l.fn.blocks l.folded l.fn.count l.left l.fn.width
    (combine_cost l.fn.fold * l.fn.width)
    × HalvingSteps g.W.Wires.shape g.W.Wires.and_calls l.fn.wires l.wires l.fn.count l.left (combine_calls l.fn.fold) (combine_wires l.fn.fold + 4)

abbrev pub decreases-loop-left : goal.decreases-loop-left
decreases-loop-left g l = l.left
