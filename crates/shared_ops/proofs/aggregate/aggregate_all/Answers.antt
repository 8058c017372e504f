use Rattle.std.proofs.Common.{◌+◌, ◌*◌, ◌≤◌, arith}
use Rattle.std.proofs.Math.Nat.{add-mul, one-mul}
use Rattle.plain_operators.specs.declared.aggregate.Aggregate.{Aggregate}
use Rattle.plain_operators.specs.declared.aggregate.Aggregate.TheVariants.{Sum}
use Rattle.shared_ops.specs.Rounds.{aggregate_calls}
use Rattle.shared_ops.proofs.Called.{calls_at_most, calls_go_on}
use Rattle.shared_ops.proofs.Growing.{wiring_begins, wiring_goes_on}
use Rattle.shared_ops.proofs.aggregate.aggregate_all.Goals as goal

pub loop-at-init : goal.loop-at-init
loop-at-init g c =
    let w = g.W.Wires in
    (wiring_begins w.grown w.possible w.shape w.ands c.args.wires.now c.new-made.result.items c.args.blocks.now.width _ _ (g.met.W.Wires.grown_refl c.args.wires.now) c.new-made.ensures.items, omega arith)

pub loop-at-preserved : goal.loop-at-preserved
loop-at-preserved g c =
    let w = g.W.Wires in
    let blocks = c.args.blocks.now in
    let at = c.loop-at.at in
    let each = 17 * (blocks.rows * blocks.width) in
    let paid : at * each + each ≤ (at + 1) * each = omega (arith, add-mul at 1 each, one-mul each) in (
      wiring_goes_on w.grown w.possible w.shape w.ands c.args.wires.now c.loop-at.wires c.aggregate_wire.new.wires c.loop-at.made.items c.push.new.self.items c.in_ok-new.new blocks.width _ at (at * each) each
          ((at + 1) * each) c.loop-at.invariant.0 c.aggregate_wire.ensures.grows c.in_ok-new.ensures.ok c.in_ok-new.ensures.cost c.in_ok-push.ensures.items paid,
      calls_go_on (λ aggregate. aggregate_calls aggregate blocks.rows) c.args.aggregates.now at (Sum 0) (w.and_calls c.args.wires.now) (w.and_calls c.loop-at.wires) (w.and_calls c.aggregate_wire.new.wires) c.loop-at-test.true
          c.loop-at.invariant.1 c.in_ok-new.ensures.calls,
    )

pub returns-in_err-new-clause-calls : goal.returns-in_err-new-clause-calls
returns-in_err-new-clause-calls g c =
    let w = g.W.Wires in
    let each = λ (aggregate : Aggregate). aggregate_calls aggregate c.args.blocks.now.rows in
    let at = c.loop-at.at in
    let all = c.args.aggregates.now in
    let first = w.and_calls c.args.wires.now in
    let next = w.and_calls c.aggregate_wire.new.wires in
    calls_at_most each all (at + 1) first next (calls_go_on each all at (Sum 0) first (w.and_calls c.loop-at.wires) next c.loop-at-test.true c.loop-at.invariant.1 c.in_err-new.ensures.calls)

pub returns-in_err-push-clause-calls : goal.returns-in_err-push-clause-calls
returns-in_err-push-clause-calls g c =
    let w = g.W.Wires in
    let each = λ (aggregate : Aggregate). aggregate_calls aggregate c.args.blocks.now.rows in
    let at = c.loop-at.at in
    let all = c.args.aggregates.now in
    let first = w.and_calls c.args.wires.now in
    let next = w.and_calls c.aggregate_wire.new.wires in
    calls_at_most each all (at + 1) first next (calls_go_on each all at (Sum 0) first (w.and_calls c.loop-at.wires) next c.loop-at-test.true c.loop-at.invariant.1 c.in_ok-new.ensures.calls)
