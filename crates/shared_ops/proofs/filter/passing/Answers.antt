use Rattle.std.proofs.Common.{◌+◌, bit_and, take, get_or, refl, sym, ap, ◌∙◌}
use Rattle.std.proofs.lemmas.List.{take_more}
use Rattle.lanes.specs.Lanes.{lanewise}
use Rattle.plain_operators.specs.declared.item.Comparison.TheVariants.{Equal}
use Rattle.plain_operators.specs.declared.item.Operand.TheVariants.{Column}
use Rattle.plain_operators.specs.declared.item.Test.{Test}
use Rattle.shared_ops.specs.Joint.{column_words, valid_words}
use Rattle.shared_ops.specs.Lanes.{test_lanes, valid_after}
use Rattle.shared_ops.specs.Rounds.{comparison_calls}
use Rattle.shared_ops.proofs.Called.{calls_at_most, calls_go_on}
use Rattle.shared_ops.proofs.Growing.{grows_then, restated}
use Rattle.shared_ops.proofs.Passing.{after_more}
use Rattle.shared_ops.proofs.Spending.{tests_at_most, tests_go_on}
use Rattle.shared_ops.proofs.filter.passing.Goals as goal

pub returns-in_err-valid-clause-cost : goal.returns-in_err-valid-clause-cost
returns-in_err-valid-clause-cost g c =
    let w = g.W.Wires in
    let none : Test = record { left = Column 0; comparison = Equal; right = Column 0 } in
    let first = w.ands c.args.wires.now in
    let next = w.ands c.pass.new.wires in
    let tests = c.args.tests.now in
    let i = c.loop-test.test-index in
    tests_at_most c.args.table.now.rows first next tests (i + 1)
    (tests_go_on c.args.table.now.rows first (w.ands c.loop-test.wires) next tests i none c.loop-test-test.true c.loop-test.invariant.0.spent c.in_err-valid.ensures.cost)

pub loop-test-preserved : goal.loop-test-preserved
loop-test-preserved g c =
    let w = g.W.Wires in
    let none : Test = record { left = Column 0; comparison = Equal; right = Column 0 } in
    let now = c.loop-test.wires in
    let new = c.pass.new.wires in
    let t = c.args.table.now in
    let tests = c.args.tests.now in
    let i = c.loop-test.test-index in
    let test = get_or tests i none in
    let inv = c.loop-test.invariant.0 in
    let ok = c.in_ok-valid.ensures in
    let each = λ (test : Test). comparison_calls test.comparison + 1 in (
      record {
        grows = grows_then w.grown w.possible w.shape c.args.wires.now now new inv.grows ok.grows;
        carries = restated (w.possible new) (w.shape new) c.in_ok-valid.valid t.rows t.rows _ _ refl ok.ok
            (λ v is. ap (λ xs. lanewise bit_and xs (test_lanes test t.rows (column_words v t))) (inv.carries.value v (ok.grows.within v is))
            ∙ sym (after_more (take i tests) test t.rows (column_words v t) (valid_words v t))
            ∙ ap (λ ts. valid_after ts t.rows (column_words v t) (valid_words v t)) (sym (take_more tests i none c.loop-test-test.true)));
        spent = tests_go_on t.rows (w.ands c.args.wires.now) (w.ands now) (w.ands new) tests i none c.loop-test-test.true inv.spent ok.cost;
      },
      calls_go_on each tests i none (w.and_calls c.args.wires.now) (w.and_calls now) (w.and_calls new) c.loop-test-test.true c.loop-test.invariant.1 ok.calls,
    )

pub returns-in_err-valid-clause-calls : goal.returns-in_err-valid-clause-calls
returns-in_err-valid-clause-calls g c =
    let w = g.W.Wires in
    let none : Test = record { left = Column 0; comparison = Equal; right = Column 0 } in
    let each = λ (test : Test). comparison_calls test.comparison + 1 in
    let tests = c.args.tests.now in
    let i = c.loop-test.test-index in
    let first = w.and_calls c.args.wires.now in
    let next = w.and_calls c.pass.new.wires in
    calls_at_most each tests (i + 1) first next (calls_go_on each tests i none first (w.and_calls c.loop-test.wires) next c.loop-test-test.true c.loop-test.invariant.1 c.in_err-valid.ensures.calls)
