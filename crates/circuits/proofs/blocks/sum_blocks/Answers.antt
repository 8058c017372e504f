use Rattle.std.proofs.Common.{◌/◌, ◌^◌, ◌<◌, ◌≤◌, refl, ◌∙◌, arith}
use Rattle.lanes.specs.Sums.{sum_word}
use Rattle.circuits.proofs.BlockLevels.{level_within, saving_begins, saving_within, steps_go_on, sum_within}
use Rattle.circuits.proofs.BlockSteps.{folding_begins, thirds_go_on, thirds_within}
use Rattle.circuits.proofs.Levels.{grows_then}
use Rattle.circuits.proofs.blocks.sum_blocks.Goals as goal

pub loop-left-init : goal.loop-left-init
loop-left-init g c =
    let w = g.W.Wires in (
      folding_begins w.grown w.possible w.shape w.ands c.args.wires.now sum_word c.args.blocks c.args.count c.args.width _
          (g.met.W.Wires.grown_refl c.args.wires.now) c.requires.blocks c.requires.lanes c.requires.some,
      saving_begins w.shape w.and_calls c.args.wires.now c.args.count c.requires.some,
    )

pub save_thirds-requires-clause-lanes : goal.save_thirds-requires-clause-lanes
save_thirds-requires-clause-lanes g c = omega (arith, thirds_within c.loop-left.left c.args.width, c.loop-left.invariant.0.lanes)

pub loop-left-preserved : goal.loop-left-preserved
loop-left-preserved g c =
    let w = g.W.Wires in
    let inv = c.loop-left.invariant in
    let some : 2 < c.loop-left.left = omega (arith, c.loop-left-test.true) in (
      thirds_go_on w.grown w.possible w.shape w.ands c.args.wires.now c.loop-left.wires c.save_thirds.new.wires c.args.blocks c.loop-left.folded c.in_ok-folded.folded
          c.args.count c.loop-left.left (c.loop-left.left / 3) c.args.width c.word_laws.ensures.carry_save
          (λ v possible. (g.met.W.Wires.fits c.loop-left.wires v c.loop-left.folded possible inv.0.made).count)
          inv.0 c.save_thirds.ensures.grows c.in_ok-folded.ensures.ok c.in_ok-folded.ensures.cost refl some,
      steps_go_on w.shape w.and_calls c.args.wires.now c.loop-left.wires c.save_thirds.new.wires c.args.count c.loop-left.left
          inv.1 c.in_ok-folded.ensures.calls c.in_ok-folded.ensures.wires some,
    )

pub returns-in_err-folded-clause-grows : goal.returns-in_err-folded-clause-grows
returns-in_err-folded-clause-grows g c =
    let w = g.W.Wires in
    grows_then w.grown w.possible w.shape c.args.wires.now c.loop-left.wires c.save_thirds.new.wires c.loop-left.invariant.0.grows c.save_thirds.ensures.grows

pub returns-in_err-folded-clause-cost : goal.returns-in_err-folded-clause-cost
returns-in_err-folded-clause-cost g c =
    let w = g.W.Wires in
    let some : 2 < c.loop-left.left = omega (arith, c.loop-left-test.true) in
    level_within (w.ands c.args.wires.now) (w.ands c.loop-left.wires) (w.ands c.save_thirds.new.wires) c.args.width c.args.count c.loop-left.left (c.loop-left.left / 3)
    c.loop-left.invariant.0.spent c.in_err-folded.ensures.cost (omega (arith, some)) some c.loop-left.invariant.1.fewer

pub returns-in_err-folded-clause-calls : goal.returns-in_err-folded-clause-calls
returns-in_err-folded-clause-calls g c l enough =
    let w = g.W.Wires in
    omega (arith, (saving_within w.shape w.and_calls c.args.wires.now c.loop-left.wires c.args.count c.loop-left.left l c.loop-left.invariant.1 enough).called, c.in_err-folded.ensures.calls)

pub returns-in_err-folded-clause-wires : goal.returns-in_err-folded-clause-wires
returns-in_err-folded-clause-wires g c l enough =
    let w = g.W.Wires in
    omega (arith, (saving_within w.shape w.and_calls c.args.wires.now c.loop-left.wires c.args.count c.loop-left.left l c.loop-left.invariant.1 enough).made, c.in_err-folded.ensures.wires)

pub returns-in_err-new-clause-grows : goal.returns-in_err-new-clause-grows
returns-in_err-new-clause-grows g c =
    let w = g.W.Wires in
    grows_then w.grown w.possible w.shape c.args.wires.now c.loop-left.wires c.fold_in_halves.new.wires c.loop-left.invariant.0.grows c.fold_in_halves.ensures.grows

pub returns-in_err-new-clause-cost : goal.returns-in_err-new-clause-cost
returns-in_err-new-clause-cost g c =
    let w = g.W.Wires in
    let few : c.loop-left.left ≤ 2 = omega (arith, c.loop-left-test.false) in
    sum_within (w.ands c.args.wires.now) (w.ands c.loop-left.wires) (w.ands c.fold_in_halves.new.wires) c.args.width c.args.count c.loop-left.left
    c.loop-left.invariant.0.spent c.in_err-new.ensures.cost c.loop-left.invariant.1.some few c.loop-left.invariant.1.fewer

pub returns-in_err-new-clause-calls : goal.returns-in_err-new-clause-calls
returns-in_err-new-clause-calls g c l enough =
    let w = g.W.Wires in
    let few : c.loop-left.left ≤ 2 ^ 1 = omega (arith, c.loop-left-test.false) in
    omega (arith, (saving_within w.shape w.and_calls c.args.wires.now c.loop-left.wires c.args.count c.loop-left.left l c.loop-left.invariant.1 enough).called, c.in_err-new.ensures.calls 1 few)

pub returns-in_err-new-clause-wires : goal.returns-in_err-new-clause-wires
returns-in_err-new-clause-wires g c l enough =
    let w = g.W.Wires in
    let few : c.loop-left.left ≤ 2 ^ 1 = omega (arith, c.loop-left-test.false) in
    omega (arith, (saving_within w.shape w.and_calls c.args.wires.now c.loop-left.wires c.args.count c.loop-left.left l c.loop-left.invariant.1 enough).made, c.in_err-new.ensures.wires 1 few)

pub returns-clause-grows : goal.returns-clause-grows
returns-clause-grows g c =
    let w = g.W.Wires in
    grows_then w.grown w.possible w.shape c.args.wires.now c.loop-left.wires c.fold_in_halves.new.wires c.loop-left.invariant.0.grows c.fold_in_halves.ensures.grows

pub returns-clause-ok : goal.returns-clause-ok
returns-clause-ok g c =
    let new = c.in_ok-new.ensures.ok in
    record {
      made = new.made;
      lanes = new.lanes;
      value = λ v possible. new.value v possible ∙ c.loop-left.invariant.0.value v (c.fold_in_halves.ensures.grows.within v possible);
    }

pub returns-clause-cost : goal.returns-clause-cost
returns-clause-cost g c =
    let w = g.W.Wires in
    let few : c.loop-left.left ≤ 2 = omega (arith, c.loop-left-test.false) in
    sum_within (w.ands c.args.wires.now) (w.ands c.loop-left.wires) (w.ands c.fold_in_halves.new.wires) c.args.width c.args.count c.loop-left.left
    c.loop-left.invariant.0.spent c.in_ok-new.ensures.cost c.loop-left.invariant.1.some few c.loop-left.invariant.1.fewer

pub returns-clause-calls : goal.returns-clause-calls
returns-clause-calls g c l enough =
    let w = g.W.Wires in
    let few : c.loop-left.left ≤ 2 ^ 1 = omega (arith, c.loop-left-test.false) in
    omega (arith, (saving_within w.shape w.and_calls c.args.wires.now c.loop-left.wires c.args.count c.loop-left.left l c.loop-left.invariant.1 enough).called, c.in_ok-new.ensures.calls 1 few)

pub returns-clause-wires : goal.returns-clause-wires
returns-clause-wires g c l enough =
    let w = g.W.Wires in
    let few : c.loop-left.left ≤ 2 ^ 1 = omega (arith, c.loop-left-test.false) in
    omega (arith, (saving_within w.shape w.and_calls c.args.wires.now c.loop-left.wires c.args.count c.loop-left.left l c.loop-left.invariant.1 enough).made, c.in_ok-new.ensures.wires 1 few)
