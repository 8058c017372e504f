use Rattle.std.proofs.Common.{cond, nat_lt, not, sym, ap, ◌∙◌}
use Rattle.lanes.specs.Sums.{less_word}
use Rattle.wires.specs.Environment.{words}
use Rattle.wires.specs.Growth.{lanes_of}
use Rattle.shared_ops.specs.Lanes.{compared_lanes}
use Rattle.shared_ops.proofs.Growing.{restated}
use Rattle.shared_ops.proofs.Passing.{exchanged}
use Rattle.shared_ops.proofs.compare.compare.Goals as goal

pub returns-in_ok-new-in-LessOrEqual-clause-ok : goal.returns-in_ok-new-in-LessOrEqual-clause-ok
returns-in_ok-new-in-LessOrEqual-clause-ok g c =
    let w = g.W.Wires in
    restated (w.possible c.not_below.new.wires) (w.shape c.not_below.new.wires) c.in_ok-new-in-LessOrEqual.new _ (lanes_of (w.shape c.args.wires.now) c.args.left) _ _ (sym c.requires.lanes) c.in_ok-new-in-LessOrEqual.ensures.ok
    (λ v now. exchanged (λ x y. cond (not (nat_lt x y)) 1 0) (words v c.args.left) (words v c.args.right) ∙ ap (λ how. compared_lanes how (words v c.args.left) (words v c.args.right)) (sym c.in-LessOrEqual.is))

pub returns-in_ok-new-in-Greater-clause-ok : goal.returns-in_ok-new-in-Greater-clause-ok
returns-in_ok-new-in-Greater-clause-ok g c =
    let w = g.W.Wires in
    restated (w.possible c.lt-in-Greater.new.wires) (w.shape c.lt-in-Greater.new.wires) c.in_ok-new-in-Greater.new _ (lanes_of (w.shape c.args.wires.now) c.args.left) _ _ (sym c.requires.lanes) c.in_ok-new-in-Greater.ensures.ok
    (λ v now. exchanged less_word (words v c.args.left) (words v c.args.right) ∙ ap (λ how. compared_lanes how (words v c.args.left) (words v c.args.right)) (sym c.in-Greater.is))
