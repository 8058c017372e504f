use Rattle.std.proofs.Common.{◌≡◌, ◌+◌, ◌*◌, ◌^◌, ◌<◌, length, slice_index_or, sym, ap, ◌∙◌, arith}
use Rattle.std.proofs.Math.Nat.{add-mul, mul-le-mul_right}
use Rattle.std.proofs.lemmas.Option.{slice_get-get_or}
use Rattle.wires.specs.Environment.{words}
use Rattle.wires.specs.Growth.{lanes_of}
use Rattle.wires.specs.declared.wire.Wire.{Wire}
use Rattle.circuits.specs.RunLoops.{taken_calls, taken_cost, taken_wires, taken_word}
use Rattle.circuits.proofs.Restated.{carried_on}
use Rattle.circuits.proofs.RunLaws.{folds_end, taken_assoc}
use Rattle.circuits.proofs.RunSteps.{level_within, one_more_level, reach_of, scan_begins, scan_goes_on}
use Rattle.circuits.proofs.runs.scan.Goals as goal

pub loop-level-init : goal.loop-level-init
loop-level-init g c =
    let w = g.W.Wires in (
      scan_begins w.grown w.possible w.shape w.ands c.args.wires.now c.args.joined c.args.column (taken_word c.args.fold) (lanes_of (w.shape c.args.wires.now) c.args.joined)
          (taken_cost c.args.fold + 1) (g.met.W.Wires.grown_refl c.args.wires.now) c.requires.column (sym c.requires.lanes),
      record { called = omega arith; made = omega arith },
    )

pub further-requires-clause-flag : goal.further-requires-clause-flag
further-requires-clause-flag g c =
    let w = g.W.Wires in
    let wire : Wire = record { 0 = 0 } in
    let inside : c.loop-level.level < length c.args.flags.now = omega arith in
    let flag : Wire = slice_index_or c.args.flags.now c.loop-level.level wire in
    let made = c.requires.flags.each c.loop-level.level flag (slice_get-get_or c.args.flags.now c.loop-level.level wire inside) in
    (carried_on w.grown w.possible w.shape c.args.wires.now c.loop-level.wires flag _ _ c.loop-level.invariant.0.grows made).made

pub further-requires-clause-lanes : goal.further-requires-clause-lanes
further-requires-clause-lanes g c =
    let w = g.W.Wires in
    let wire : Wire = record { 0 = 0 } in
    let inside : c.loop-level.level < length c.args.flags.now = omega arith in
    let flag : Wire = slice_index_or c.args.flags.now c.loop-level.level wire in
    let made = c.requires.flags.each c.loop-level.level flag (slice_get-get_or c.args.flags.now c.loop-level.level wire inside) in
    (carried_on w.grown w.possible w.shape c.args.wires.now c.loop-level.wires flag _ _ c.loop-level.invariant.0.grows made).lanes ∙ sym c.loop-level.invariant.0.carries.lanes

pub loop-level-preserved : goal.loop-level-preserved
loop-level-preserved g c =
    let w = g.W.Wires in
    let fits = g.met.W.Wires.fits in
    let wire : Wire = record { 0 = 0 } in
    let inside : c.loop-level.level < length c.args.flags.now = omega arith in
    let below : c.loop-level.level < 32 = omega (arith, c.requires.few, inside) in
    let flag : Wire = slice_index_or c.args.flags.now c.loop-level.level wire in
    let made = c.requires.flags.each c.loop-level.level flag (slice_get-get_or c.args.flags.now c.loop-level.level wire inside) in (
      scan_goes_on w.grown w.possible w.shape w.ands c.args.wires.now c.loop-level.wires c.further.new.wires c.args.joined c.args.column flag c.loop-level.folded c.in_ok-folded.folded
          (taken_word c.args.fold) (lanes_of (w.shape c.args.wires.now) c.args.joined) c.loop-level.level _ (taken_cost c.args.fold + 1) (taken_assoc c.args.fold)
          (λ v possible. (fits c.args.wires.now v c.args.joined possible c.requires.joined).count ∙ c.requires.lanes
          ∙ sym (fits c.args.wires.now v c.args.column possible c.requires.column).count)
          made c.loop-level.invariant.0 c.further.ensures.grows c.in_ok-folded.ensures.ok c.in_ok-folded.ensures.cost (reach_of c.loop-level.level below),
      record {
        called = omega (arith, c.loop-level.invariant.1.called, c.in_ok-folded.ensures.calls, one_more_level (taken_calls c.args.fold + 1) c.loop-level.level);
        made = omega (arith, c.loop-level.invariant.1.made, c.in_ok-folded.ensures.wires, one_more_level (taken_wires c.args.fold + 5) c.loop-level.level);
      },
    )

pub returns-clause-ok : goal.returns-clause-ok
returns-clause-ok g c =
    let inv = c.loop-level.invariant.0 in
    let last : c.loop-level.level ≡ length c.args.flags.now = omega arith in
    let reach = ap (λ k. 2 ^ k) last in
    record {
      made = inv.carries.made;
      lanes = inv.carries.lanes;
      value = λ v possible.
          let wide = (g.met.W.Wires.fits c.args.wires.now v c.args.column (inv.grows.within v possible) c.requires.column).count in
          inv.carries.value v possible
          ∙ folds_end (taken_word c.args.fold) (2 ^ c.loop-level.level) (words v c.args.joined) (words v c.args.column) (omega (arith, wide, reach, c.requires.lanes, c.requires.enough));
    }

pub returns-in_err-folded-clause-calls : goal.returns-in_err-folded-clause-calls
returns-in_err-folded-clause-calls g c =
    let inside : c.loop-level.level < length c.args.flags.now = omega arith in
    omega (arith, c.loop-level.invariant.1.called, c.in_err-folded.ensures.calls, level_within (taken_calls c.args.fold + 1) c.loop-level.level (length c.args.flags.now) inside)

pub returns-clause-calls : goal.returns-clause-calls
returns-clause-calls g c =
    let last : c.loop-level.level ≡ length c.args.flags.now = omega arith in
    omega (arith, c.loop-level.invariant.1.called, ap (λ l. (taken_calls c.args.fold + 1) * l) last)

pub returns-in_err-folded-clause-wires : goal.returns-in_err-folded-clause-wires
returns-in_err-folded-clause-wires g c =
    let inside : c.loop-level.level < length c.args.flags.now = omega arith in
    omega (arith, c.loop-level.invariant.1.made, c.in_err-folded.ensures.wires, level_within (taken_wires c.args.fold + 5) c.loop-level.level (length c.args.flags.now) inside)

pub returns-clause-wires : goal.returns-clause-wires
returns-clause-wires g c =
    let last : c.loop-level.level ≡ length c.args.flags.now = omega arith in
    omega (arith, c.loop-level.invariant.1.made, ap (λ l. (taken_wires c.args.fold + 5) * l) last)

pub returns-in_err-folded-clause-cost : goal.returns-in_err-folded-clause-cost
returns-in_err-folded-clause-cost g c =
    let w = g.W.Wires in
    let n = lanes_of (w.shape c.args.wires.now) c.args.joined in
    let inv = c.loop-level.invariant.0 in
    let cost = taken_cost c.args.fold + 1 in
    let inside : c.loop-level.level < length c.args.flags.now = omega arith in
    let most = mul-le-mul_right n (level_within cost c.loop-level.level (length c.args.flags.now) inside) in
    omega (arith, inv.spent, c.in_err-folded.ensures.cost, ap (λ k. cost * k) inv.carries.lanes, most, add-mul (cost * c.loop-level.level) cost n)
