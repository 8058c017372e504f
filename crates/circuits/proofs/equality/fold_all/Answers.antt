use Rattle.std.proofs.Common.{◌≡◌, arith}
use Rattle.wires.specs.Growth.{lanes_of}
use Rattle.circuits.proofs.Levels.{fold_begins, fold_goes_on, grows_then, level_cost, places_of}
use Rattle.circuits.proofs.equality.fold_all.Goals as goal

pub loop-level-init : goal.loop-level-init
loop-level-init g c =
    let w = g.W.Wires in
    (fold_begins w.grown w.possible w.shape w.ands c.args.wires.now c.args.wire (g.met.W.Wires.grown_refl c.args.wires.now) c.requires, record { called = omega arith; made = omega arith })

pub loop-level-preserved : goal.loop-level-preserved
loop-level-preserved g c =
    let w = g.W.Wires in
    let inv = c.loop-level.invariant in (
      fold_goes_on w.grown w.possible w.shape w.ands c.args.wires.now c.loop-level.wires c.fold.new.wires c.args.wire c.loop-level.folded c.in_ok-folded.folded _ c.loop-level.level _
          inv.0 c.fold.ensures.grows c.in_ok-folded.ensures.ok c.in_ok-folded.ensures.cost (places_of c.loop-level.level c.loop-level-test.true).0,
      record { called = omega (arith, inv.1.called, c.in_ok-folded.ensures.calls); made = omega (arith, inv.1.made, c.in_ok-folded.ensures.wires) },
    )

pub fold-requires-clause-made : goal.fold-requires-clause-made
fold-requires-clause-made g c = c.loop-level.invariant.0.carries.made

pub fold-requires-clause-places : goal.fold-requires-clause-places
fold-requires-clause-places g c =
    let p = places_of c.loop-level.level c.loop-level-test.true in
    omega (arith, p.0, p.1)

pub returns-in_err-folded-clause-grows : goal.returns-in_err-folded-clause-grows
returns-in_err-folded-clause-grows g c =
    let w = g.W.Wires in
    grows_then w.grown w.possible w.shape c.args.wires.now c.loop-level.wires c.fold.new.wires c.loop-level.invariant.0.grows c.fold.ensures.grows

pub returns-in_err-folded-clause-cost : goal.returns-in_err-folded-clause-cost
returns-in_err-folded-clause-cost g c =
    let inv = c.loop-level.invariant.0 in
    omega (arith, inv.spent, inv.carries.lanes, c.in_err-folded.ensures.cost, level_cost c.loop-level.level 6 (lanes_of (g.W.Wires.shape c.args.wires.now) c.args.wire) c.loop-level-test.true)

pub returns-clause-grows : goal.returns-clause-grows
returns-clause-grows g c = c.loop-level.invariant.0.grows

pub returns-clause-ok : goal.returns-clause-ok
returns-clause-ok g c =
    let last : c.loop-level.level ≡ 6 = omega arith in
    rw last at c.loop-level.invariant.0.carries

pub returns-clause-cost : goal.returns-clause-cost
returns-clause-cost g c =
    let last : c.loop-level.level ≡ 6 = omega arith in
    rw last at c.loop-level.invariant.0.spent
