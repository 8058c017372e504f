use Rattle.std.proofs.Common.{◌<◌, refl, arith}
use Rattle.wires.specs.Environment.{words}
use Rattle.wires.specs.Growth.{lanes_of}
use Rattle.circuits.proofs.Levels.{grows_still, places_of}
use Rattle.circuits.proofs.LaneValues.{spread_begins}
use Rattle.circuits.proofs.Spans.{spread_goes_on}
use Rattle.circuits.proofs.prefix.spread_tops.Goals as goal

pub loop-step-init : goal.loop-step-init
loop-step-init g c =
    let w = g.W.Wires in (
      record {
        grows = grows_still w.grown w.possible w.shape c.args.wires.now (g.met.W.Wires.grown_refl c.args.wires.now);
        carries = record { made = c.requires.tops; lanes = refl; value = λ v is. spread_begins (words v c.args.tops) };
        spent = omega arith;
      },
      record { called = omega arith; made = omega arith },
    )

pub nearer-requires-clause-places : goal.nearer-requires-clause-places
nearer-requires-clause-places g c =
    let few : c.loop-step.step < 6 = omega (arith, c.requires.few, c.loop-step-test.true) in
    let p = places_of c.loop-step.step few in
    omega (arith, p.0, p.1)

pub loop-step-preserved : goal.loop-step-preserved
loop-step-preserved g c =
    let w = g.W.Wires in
    let inv = c.loop-step.invariant in
    let few : c.loop-step.step < 6 = omega (arith, c.requires.few, c.loop-step-test.true) in (
      spread_goes_on w.grown w.possible w.shape w.ands c.args.wires.now c.loop-step.wires c.nearer.new.wires c.args.tops c.loop-step.spread c.in_ok-spread.spread
          (lanes_of (w.shape c.args.wires.now) c.args.tops) c.loop-step.step _ inv.0 c.nearer.ensures.grows c.in_ok-spread.ensures.ok c.in_ok-spread.ensures.count
          (places_of c.loop-step.step few).0,
      record { called = omega (arith, inv.1.called, c.in_ok-spread.ensures.calls); made = omega (arith, inv.1.made, c.in_ok-spread.ensures.wires) },
    )
