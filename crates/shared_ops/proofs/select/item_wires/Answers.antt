use Rattle.std.proofs.Common.{◌+◌, ◌*◌, [], take, get_or, refl, sym, arith}
use Rattle.std.proofs.lemmas.List.{get_or-map}
use Rattle.plain_operators.specs.declared.item.Item.{Item}
use Rattle.plain_operators.specs.declared.item.Item.TheVariants.{Plain}
use Rattle.plain_operators.specs.declared.item.Operand.TheVariants.{Column}
use Rattle.shared_ops.specs.Costs.{item_cost, items_cost}
use Rattle.shared_ops.specs.Joint.{column_words}
use Rattle.shared_ops.specs.Lanes.{item_lanes}
use Rattle.shared_ops.specs.Rounds.{item_calls}
use Rattle.shared_ops.proofs.Called.{calls_at_most, calls_go_on}
use Rattle.shared_ops.proofs.Growing.{restated, wiring_begins, wiring_goes_on}
use Rattle.shared_ops.proofs.Items.{item_spent, items_at_most}
use Rattle.shared_ops.proofs.select.item_wires.Goals as goal

pub loop-at-init : goal.loop-at-init
loop-at-init g c =
    let w = g.W.Wires in
    (wiring_begins w.grown w.possible w.shape w.ands c.args.wires.now c.new-columns.result.items c.args.table.now.rows _ _ (g.met.W.Wires.grown_refl c.args.wires.now) c.new-columns.ensures.items, omega arith)

pub loop-at-preserved : goal.loop-at-preserved
loop-at-preserved g c =
    let w = g.W.Wires in
    let none : Item = Plain (Column 0) in
    let t = c.args.table.now in
    let items = c.args.items.now in
    let at = c.loop-at.at in
    let inv = c.loop-at.invariant.0 in
    let ok = c.in_ok-column.ensures in
    let made = restated (w.possible c.item_wire.new.wires) (w.shape c.item_wire.new.wires) c.in_ok-column.column t.rows t.rows _ _ refl ok.ok
    (λ v now. sym (get_or-map (λ item. item_lanes item t.rows (column_words v t)) items at none [] c.loop-at-test.true)) in
    let total = item_spent t.rows items at none c.loop-at-test.true in (
      wiring_goes_on w.grown w.possible w.shape w.ands c.args.wires.now c.loop-at.wires c.item_wire.new.wires c.loop-at.columns.items c.push.new.self.items c.in_ok-column.column t.rows _ at
          (t.rows * items_cost (take at items)) (item_cost (get_or items at none) * t.rows) (t.rows * items_cost (take (at + 1) items)) inv ok.grows made ok.cost c.in_ok-push.ensures.items (omega (arith, total)),
      calls_go_on item_calls items at none (w.and_calls c.args.wires.now) (w.and_calls c.loop-at.wires) (w.and_calls c.item_wire.new.wires) c.loop-at-test.true c.loop-at.invariant.1 ok.calls,
    )

pub returns-in_err-column-clause-cost : goal.returns-in_err-column-clause-cost
returns-in_err-column-clause-cost g c =
    let w = g.W.Wires in
    let none : Item = Plain (Column 0) in
    let rows = c.args.table.now.rows in
    let items = c.args.items.now in
    let at = c.loop-at.at in
    let total = item_spent rows items at none c.loop-at-test.true in
    items_at_most rows (w.ands c.args.wires.now) (w.ands c.item_wire.new.wires) items (at + 1) (omega (arith, c.loop-at.invariant.0.spent, c.in_err-column.ensures.cost, total))

pub returns-in_err-push-clause-cost : goal.returns-in_err-push-clause-cost
returns-in_err-push-clause-cost g c =
    let w = g.W.Wires in
    let none : Item = Plain (Column 0) in
    let rows = c.args.table.now.rows in
    let items = c.args.items.now in
    let at = c.loop-at.at in
    let total = item_spent rows items at none c.loop-at-test.true in
    items_at_most rows (w.ands c.args.wires.now) (w.ands c.item_wire.new.wires) items (at + 1) (omega (arith, c.loop-at.invariant.0.spent, c.in_ok-column.ensures.cost, total))

pub returns-in_err-column-clause-calls : goal.returns-in_err-column-clause-calls
returns-in_err-column-clause-calls g c =
    let w = g.W.Wires in
    let none : Item = Plain (Column 0) in
    let items = c.args.items.now in
    let at = c.loop-at.at in
    let first = w.and_calls c.args.wires.now in
    let next = w.and_calls c.item_wire.new.wires in
    calls_at_most item_calls items (at + 1) first next (calls_go_on item_calls items at none first (w.and_calls c.loop-at.wires) next c.loop-at-test.true c.loop-at.invariant.1 c.in_err-column.ensures.calls)

pub returns-in_err-push-clause-calls : goal.returns-in_err-push-clause-calls
returns-in_err-push-clause-calls g c =
    let w = g.W.Wires in
    let none : Item = Plain (Column 0) in
    let items = c.args.items.now in
    let at = c.loop-at.at in
    let first = w.and_calls c.args.wires.now in
    let next = w.and_calls c.item_wire.new.wires in
    calls_at_most item_calls items (at + 1) first next (calls_go_on item_calls items at none first (w.and_calls c.loop-at.wires) next c.loop-at-test.true c.loop-at.invariant.1 c.in_ok-column.ensures.calls)
