use Rattle.std.proofs.Common.{◌≡◌, ℕ, ◌*◌, length, refl, subst, arith}
use Rattle.shared_ops.specs.declared.joint.Joint.{Joint}
use Rattle.shared_ops.specs.Joint.{IsWide}
use Rattle.shared_ops.proofs.Called.{aggregates_by_rows}
use Rattle.shared_ops.proofs.FirstTables.{whole_makes}
use Rattle.shared_ops.proofs.Flagged.{blocks_are, wired_as}
use Rattle.shared_ops.proofs.GroupCosts.{any_cost, whole_cost}
use Rattle.shared_ops.proofs.group.whole_table.Goals as goal

pub aggregate_all-requires-clause-blocks : goal.aggregate_all-requires-clause-blocks
aggregate_all-requires-clause-blocks g c =
    let t = c.args.table.now in
    let is = c.in_ok-blocks.ensures in
    let same : t.rows ≡ t.rows * 1 = omega arith in
    blocks_are (g.W.Wires.shape c.args.wires.now) c.in_ok-blocks.blocks t.valid t.rows 1 is.flags is.places is.rows is.width
    (subst (λ (lanes : ℕ). IsWide (g.W.Wires.shape c.args.wires.now) lanes t.valid) same c.requires.joint.valid) c.requires.some (omega arith)

pub returns-clause-makes : goal.returns-clause-makes
returns-clause-makes g c =
    let w = g.W.Wires in
    let t = c.args.table.now in
    let made : Joint = record { columns = c.in_ok-columns.columns; valid = c.in_ok-valid.valid; rows = 1 } in
    let is = c.in_ok-blocks.ensures in
    let mid = c.aggregate_all.new.wires in
    let wired = wired_as (w.possible mid) (w.shape mid) made.columns.items c.args.aggregates.now t c.in_ok-blocks.blocks t.valid t.rows 1 is.flags is.rows is.width c.in_ok-columns.ensures.ok in
    whole_makes w.grown w.possible w.shape g.met.W.Wires.fits c.args.wires.now mid c.fold_blocks.new.wires made t c.args.aggregates.now
    c.folds_from_neutral.ensures c.aggregates_are_folds.ensures c.bags_are_equivalence.ensures.itself c.requires.joint c.requires.aggregates c.requires.some (omega arith) refl c.in_ok-columns.ensures.count
    c.in_ok-columns.ensures.grows wired c.in_ok-valid.ensures.grows c.in_ok-valid.ensures.ok

pub returns-clause-cost : goal.returns-clause-cost
returns-clause-cost g c =
    let w = g.W.Wires in
    let t = c.args.table.now in
    let many = length c.args.aggregates.now in
    let is = c.in_ok-blocks.ensures in
    let each : many * (17 * (c.in_ok-blocks.blocks.rows * c.in_ok-blocks.blocks.width)) ≡ many * (17 * (t.rows * 1)) = λ i. many * (17 * (is.rows i * is.width i)) in
    whole_cost (w.ands c.args.wires.now) (w.ands c.aggregate_all.new.wires) (w.ands c.fold_blocks.new.wires) t.rows many
    (omega (arith, c.in_ok-columns.ensures.cost, each)) (omega (arith, c.in_ok-valid.ensures.cost, any_cost 1 t.rows))

pub returns-clause-calls : goal.returns-clause-calls
returns-clause-calls g c = omega (arith, c.in_ok-columns.ensures.calls, c.in_ok-valid.ensures.calls, aggregates_by_rows c.args.aggregates.now c.in_ok-blocks.blocks.rows c.args.table.now.rows c.in_ok-blocks.ensures.rows)

pub returns-in_err-columns-clause-calls : goal.returns-in_err-columns-clause-calls
returns-in_err-columns-clause-calls g c = omega (arith, c.in_err-columns.ensures.calls, aggregates_by_rows c.args.aggregates.now c.in_ok-blocks.blocks.rows c.args.table.now.rows c.in_ok-blocks.ensures.rows)

pub returns-in_err-valid-clause-calls : goal.returns-in_err-valid-clause-calls
returns-in_err-valid-clause-calls g c = omega (arith, c.in_ok-columns.ensures.calls, c.in_err-valid.ensures.calls, aggregates_by_rows c.args.aggregates.now c.in_ok-blocks.blocks.rows c.args.table.now.rows c.in_ok-blocks.ensures.rows)
