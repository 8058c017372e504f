use Rattle.lanes.specs.Sums.{sum_word}
use Rattle.circuits.proofs.BlockLevels.{SavingSteps}
use Rattle.circuits.proofs.BlockSteps.{FoldingBlocks}
use Rattle.circuits.proofs.blocks.sum_blocks.Given as goal

abbrev pub invariant-loop-left : goal.invariant-loop-left
invariant-loop-left g l =
    FoldingBlocks g.W.Wires.grown g.W.Wires.possible g.W.Wires.shape g.W.Wires.ands l.fn.wires l.wires sum_word l.fn.blocks l.folded l.fn.count l.left l.fn.width l.fn.width
    × SavingSteps g.W.Wires.shape g.W.Wires.and_calls l.fn.wires l.wires l.fn.count l.left

abbrev pub decreases-loop-left : goal.decreases-loop-left
decreases-loop-left g l = l.left
