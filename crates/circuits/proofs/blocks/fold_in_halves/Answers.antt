use Rattle.std.proofs.Common.{◌+◌, ◌/◌, ◌<◌, refl, arith}
use Rattle.circuits.specs.Folds.{combine_calls, combine_cost, combine_wires, combined_word}
use Rattle.circuits.proofs.BlockLaws.{combined_semigroup}
use Rattle.circuits.proofs.BlockLevels.{halving_begins, halving_goes_on, halving_within}
use Rattle.circuits.proofs.BlockSteps.{folding_begins, folding_cost, folding_ends, folding_goes_on, halves_within, level_cost}
use Rattle.circuits.proofs.Levels.{grows_then}
use Rattle.circuits.proofs.blocks.fold_in_halves.Goals as goal

pub loop-left-init : goal.loop-left-init
loop-left-init g c =
    let w = g.W.Wires in (
      folding_begins w.grown w.possible w.shape w.ands c.args.wires.now (combined_word c.args.fold) c.args.blocks c.args.count c.args.width _
          (g.met.W.Wires.grown_refl c.args.wires.now) c.requires.blocks c.requires.lanes c.requires.some,
      halving_begins w.shape w.and_calls c.args.wires.now c.args.count (combine_calls c.args.fold) (combine_wires c.args.fold + 4),
    )

pub fold_halves-requires-clause-lanes : goal.fold_halves-requires-clause-lanes
fold_halves-requires-clause-lanes g c =
    let some : 1 < c.loop-left.left = omega (arith, c.loop-left-test.true) in
    omega (arith, halves_within c.loop-left.left c.args.width some, c.loop-left.invariant.0.lanes)

pub returns-in_err-folded-clause-cost : goal.returns-in_err-folded-clause-cost
returns-in_err-folded-clause-cost g c =
    let w = g.W.Wires in
    let some : 1 < c.loop-left.left = omega (arith, c.loop-left-test.true) in
    level_cost (w.ands c.args.wires.now) (w.ands c.loop-left.wires) (w.ands c.fold_halves.new.wires) (combine_cost c.args.fold) c.args.width c.args.count c.loop-left.left (c.loop-left.left / 2)
    c.loop-left.invariant.0.spent c.in_err-folded.ensures.cost (omega arith) c.requires.some

pub returns-in_err-folded-clause-calls : goal.returns-in_err-folded-clause-calls
returns-in_err-folded-clause-calls g c levels enough =
    let w = g.W.Wires in
    let some : 1 < c.loop-left.left = omega (arith, c.loop-left-test.true) in
    let more = halving_goes_on w.shape w.and_calls c.args.wires.now c.loop-left.wires c.fold_halves.new.wires c.args.count c.loop-left.left (combine_calls c.args.fold) (combine_wires c.args.fold + 4)
    c.loop-left.invariant.1 c.in_err-folded.ensures.calls c.in_err-folded.ensures.wires some in
    (halving_within w.shape w.and_calls c.args.wires.now c.fold_halves.new.wires c.args.count _ (combine_calls c.args.fold) (combine_wires c.args.fold + 4) levels more enough).called

pub returns-in_err-folded-clause-wires : goal.returns-in_err-folded-clause-wires
returns-in_err-folded-clause-wires g c levels enough =
    let w = g.W.Wires in
    let some : 1 < c.loop-left.left = omega (arith, c.loop-left-test.true) in
    let more = halving_goes_on w.shape w.and_calls c.args.wires.now c.loop-left.wires c.fold_halves.new.wires c.args.count c.loop-left.left (combine_calls c.args.fold) (combine_wires c.args.fold + 4)
    c.loop-left.invariant.1 c.in_err-folded.ensures.calls c.in_err-folded.ensures.wires some in
    (halving_within w.shape w.and_calls c.args.wires.now c.fold_halves.new.wires c.args.count _ (combine_calls c.args.fold) (combine_wires c.args.fold + 4) levels more enough).made

pub loop-left-preserved : goal.loop-left-preserved
loop-left-preserved g c =
    let w = g.W.Wires in
    let inv = c.loop-left.invariant in
    let some : 1 < c.loop-left.left = omega (arith, c.loop-left-test.true) in (
      folding_goes_on w.grown w.possible w.shape w.ands c.args.wires.now c.loop-left.wires c.fold_halves.new.wires (combined_word c.args.fold) c.args.blocks c.loop-left.folded c.in_ok-folded.folded
          c.args.count c.loop-left.left (c.loop-left.left / 2) c.args.width (combine_cost c.args.fold) (combined_semigroup c.args.fold)
          (λ v possible. (g.met.W.Wires.fits c.loop-left.wires v c.loop-left.folded possible inv.0.made).count)
          inv.0 c.fold_halves.ensures.grows c.in_ok-folded.ensures.ok c.in_ok-folded.ensures.cost refl some,
      halving_goes_on w.shape w.and_calls c.args.wires.now c.loop-left.wires c.fold_halves.new.wires c.args.count c.loop-left.left (combine_calls c.args.fold) (combine_wires c.args.fold + 4)
          inv.1 c.in_ok-folded.ensures.calls c.in_ok-folded.ensures.wires some,
    )

pub returns-in_err-folded-clause-grows : goal.returns-in_err-folded-clause-grows
returns-in_err-folded-clause-grows g c =
    let w = g.W.Wires in
    grows_then w.grown w.possible w.shape c.args.wires.now c.loop-left.wires c.fold_halves.new.wires c.loop-left.invariant.0.grows c.fold_halves.ensures.grows

pub returns-clause-ok : goal.returns-clause-ok
returns-clause-ok g c =
    let w = g.W.Wires in
    let inv = c.loop-left.invariant.0 in
    folding_ends w.grown w.possible w.shape w.ands c.args.wires.now c.loop-left.wires (combined_word c.args.fold) c.args.blocks c.loop-left.folded c.args.count c.loop-left.left c.args.width _
    (λ v possible. (g.met.W.Wires.fits c.loop-left.wires v c.loop-left.folded possible inv.made).count)
    inv (omega (arith, inv.some))

pub returns-clause-cost : goal.returns-clause-cost
returns-clause-cost g c =
    let w = g.W.Wires in
    let inv = c.loop-left.invariant.0 in
    folding_cost (w.ands c.args.wires.now) (w.ands c.loop-left.wires) _ c.args.count c.loop-left.left inv.spent inv.some c.requires.some

pub returns-clause-calls : goal.returns-clause-calls
returns-clause-calls g c levels enough =
    let w = g.W.Wires in
    (halving_within w.shape w.and_calls c.args.wires.now c.loop-left.wires c.args.count c.loop-left.left (combine_calls c.args.fold) (combine_wires c.args.fold + 4) levels c.loop-left.invariant.1 enough).called

pub returns-clause-wires : goal.returns-clause-wires
returns-clause-wires g c levels enough =
    let w = g.W.Wires in
    (halving_within w.shape w.and_calls c.args.wires.now c.loop-left.wires c.args.count c.loop-left.left (combine_calls c.args.fold) (combine_wires c.args.fold + 4) levels c.loop-left.invariant.1 enough).made
