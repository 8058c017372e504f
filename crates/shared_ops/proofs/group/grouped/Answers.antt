use Rattle.std.proofs.Common.{◌≡◌, ◌*◌, length, refl, arith}
use Rattle.shared_ops.specs.declared.joint.Joint.{Joint}
use Rattle.shared_ops.proofs.Called.{aggregates_by_rows}
use Rattle.shared_ops.proofs.FirstTables.{group_makes}
use Rattle.shared_ops.proofs.Flagged.{blocks_are, wired_as}
use Rattle.shared_ops.proofs.GroupCosts.{grouped_cost}
use Rattle.shared_ops.proofs.Growing.{grows_then}
use Rattle.shared_ops.proofs.group.grouped.Goals as goal

pub aggregate_all-requires-clause-blocks : goal.aggregate_all-requires-clause-blocks
aggregate_all-requires-clause-blocks g c =
    let t = c.args.table.now in
    let is = c.in_ok-blocks.ensures in
    blocks_are (g.W.Wires.shape c.firsts.new.wires) c.in_ok-blocks.blocks c.in_ok-firsts.firsts.flags t.rows t.rows is.flags is.places is.rows is.width
    c.in_ok-firsts.ensures.ok.flags.wide c.requires.some c.requires.few

pub returns-clause-makes : goal.returns-clause-makes
returns-clause-makes g c =
    let w = g.W.Wires in
    let t = c.args.table.now in
    let firsts = c.in_ok-firsts.firsts in
    let made : Joint = record { columns = c.in_ok-columns.columns; valid = firsts.valid; rows = t.rows } in
    let is = c.in_ok-blocks.ensures in
    let mid = c.firsts.new.wires in
    let new = c.aggregate_all.new.wires in
    let folded = c.in_ok-folded.folded.items in
    let wired = wired_as (w.possible new) (w.shape new) folded c.args.aggregates.now t c.in_ok-blocks.blocks firsts.flags t.rows t.rows is.flags is.rows is.width c.in_ok-folded.ensures.ok in
    group_makes w.grown w.possible w.shape g.met.W.Wires.fits c.args.wires.now mid new made t firsts c.args.keys.now c.args.aggregates.now folded
    c.operators_of_firsts.ensures.group c.folds_from_neutral.ensures c.aggregates_are_folds.ensures c.table_laws.ensures c.bags_are_equivalence.ensures.itself
    c.requires.joint c.requires.keys c.requires.aggregates c.requires.few refl refl c.in_ok-columns.ensures c.in_ok-folded.ensures.count
    c.in_ok-firsts.ensures.grows c.in_ok-firsts.ensures.ok c.in_ok-folded.ensures.grows wired

pub returns-clause-cost : goal.returns-clause-cost
returns-clause-cost g c =
    let w = g.W.Wires in
    let t = c.args.table.now in
    let many = length c.args.aggregates.now in
    let is = c.in_ok-blocks.ensures in
    let each : many * (17 * (c.in_ok-blocks.blocks.rows * c.in_ok-blocks.blocks.width)) ≡ many * (17 * (t.rows * t.rows)) = λ i. many * (17 * (is.rows i * is.width i)) in
    grouped_cost (w.ands c.args.wires.now) (w.ands c.firsts.new.wires) (w.ands c.aggregate_all.new.wires) (t.rows * t.rows) (length c.args.keys.now) many
    c.in_ok-firsts.ensures.cost (omega (arith, c.in_ok-folded.ensures.cost, each))

pub returns-in_err-columns-clause-cost : goal.returns-in_err-columns-clause-cost
returns-in_err-columns-clause-cost g c =
    let w = g.W.Wires in
    let t = c.args.table.now in
    let many = length c.args.aggregates.now in
    let is = c.in_ok-blocks.ensures in
    let each : many * (17 * (c.in_ok-blocks.blocks.rows * c.in_ok-blocks.blocks.width)) ≡ many * (17 * (t.rows * t.rows)) = λ i. many * (17 * (is.rows i * is.width i)) in
    grouped_cost (w.ands c.args.wires.now) (w.ands c.firsts.new.wires) (w.ands c.aggregate_all.new.wires) (t.rows * t.rows) (length c.args.keys.now) many
    c.in_ok-firsts.ensures.cost (omega (arith, c.in_ok-folded.ensures.cost, each))

pub returns-clause-grows : goal.returns-clause-grows
returns-clause-grows g c =
    let w = g.W.Wires in
    grows_then w.grown w.possible w.shape c.args.wires.now c.firsts.new.wires c.aggregate_all.new.wires c.in_ok-firsts.ensures.grows c.in_ok-folded.ensures.grows

pub returns-clause-calls : goal.returns-clause-calls
returns-clause-calls g c = omega (arith, c.in_ok-firsts.ensures.calls, c.in_ok-folded.ensures.calls, aggregates_by_rows c.args.aggregates.now c.in_ok-blocks.blocks.rows c.args.table.now.rows c.in_ok-blocks.ensures.rows)

pub returns-in_err-folded-clause-calls : goal.returns-in_err-folded-clause-calls
returns-in_err-folded-clause-calls g c = omega (arith, c.in_ok-firsts.ensures.calls, c.in_err-folded.ensures.calls, aggregates_by_rows c.args.aggregates.now c.in_ok-blocks.blocks.rows c.args.table.now.rows c.in_ok-blocks.ensures.rows)

pub returns-in_err-columns-clause-calls : goal.returns-in_err-columns-clause-calls
returns-in_err-columns-clause-calls g c = omega (arith, c.in_ok-firsts.ensures.calls, c.in_ok-folded.ensures.calls, aggregates_by_rows c.args.aggregates.now c.in_ok-blocks.blocks.rows c.args.table.now.rows c.in_ok-blocks.ensures.rows)
