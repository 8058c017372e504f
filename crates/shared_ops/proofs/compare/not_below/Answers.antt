use Rattle.std.proofs.Common.{bit_and, nat_lt, ap, ◌∙◌}
use Rattle.lanes.specs.Lanes.{lanewise1}
use Rattle.lanes.specs.Word.{word_not}
use Rattle.wires.specs.Environment.{words}
use Rattle.wires.specs.Growth.{lanes_of}
use Rattle.shared_ops.proofs.Growing.{restated}
use Rattle.shared_ops.proofs.Passing.{flipped_lanes}
use Rattle.shared_ops.proofs.compare.not_below.Goals as goal

pub returns-clause-ok : goal.returns-clause-ok
returns-clause-ok g c =
    let w = g.W.Wires in
    let flag = c.in_ok-below.ensures.ok in
    restated (w.possible c.flipped.new.wires) (w.shape c.flipped.new.wires) c.in_ok-new.new _ (lanes_of (w.shape c.args.wires.now) c.args.left) _ _ flag.lanes c.in_ok-new.ensures.ok
    (λ v now. ap (λ xs. lanewise1 (λ x. bit_and x 1) (lanewise1 word_not xs)) (flag.value v (c.in_ok-new.ensures.grows.within v now)) ∙ flipped_lanes nat_lt (words v c.args.left) (words v c.args.right))
