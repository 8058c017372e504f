use Rattle.std.proofs.Common.{◌+◌, ◌*◌, ◌≤◌, take}
use Rattle.shared_ops.specs.Costs.{tests_cost}
use Rattle.shared_ops.specs.Joint.{column_words, valid_words}
use Rattle.shared_ops.specs.Lanes.{valid_after}
use Rattle.shared_ops.specs.Rounds.{tests_calls}
use Rattle.shared_ops.specs.Wired.{Building}
use Rattle.shared_ops.proofs.filter.passing.Given as goal

abbrev pub invariant-loop-test : goal.invariant-loop-test
invariant-loop-test g l =
    Building g.W.Wires.grown g.W.Wires.possible g.W.Wires.shape g.W.Wires.ands l.fn.wires l.wires l.valid l.table.rows
    (λ v. valid_after (take l.test-index l.tests) l.table.rows (column_words v l.table) (valid_words v l.table)) (l.table.rows * tests_cost (take l.test-index l.tests))
    × (g.W.Wires.and_calls l.wires ≤ g.W.Wires.and_calls l.fn.wires + tests_calls (take l.test-index l.tests))
