use Rattle.std.proofs.Common.{◌∙◌, arith}
use Rattle.wires.specs.Environment.{words}
use Rattle.wires.specs.Growth.{lanes_of}
use Rattle.circuits.proofs.Levels.{grows_then}
use Rattle.circuits.proofs.LaneValues.{saved_begins}
use Rattle.circuits.proofs.Restated.{carried_on}
use Rattle.circuits.proofs.Savings.{saving_goes_on}
use Rattle.circuits.proofs.products.terms_saved.Goals as goal

pub loop-place-init : goal.loop-place-init
loop-place-init g c =
    let w = g.W.Wires in
    let sum = carried_on w.grown w.possible w.shape c.term.new.wires c.term-2.new.wires c.in_ok-sum.sum _ _ c.term-2.ensures.grows c.in_ok-sum.ensures.ok in
    let carry = c.in_ok-carry.ensures.ok in
    let kept = c.term.ensures.grows.keeps.lanes c.args.left.0 c.requires.left in (
      record {
        grows = grows_then w.grown w.possible w.shape c.args.wires.now c.term.new.wires c.term-2.new.wires c.term.ensures.grows c.term-2.ensures.grows;
        sum = record {
          made = sum.made;
          lanes = sum.lanes;
          value = λ v possible. sum.value v possible ∙ (saved_begins (words v c.args.left) (words v c.args.right)).0;
        };
        carry = record {
          made = carry.made;
          lanes = carry.lanes ∙ kept;
          value = λ v possible. carry.value v possible ∙ (saved_begins (words v c.args.left) (words v c.args.right)).1;
        };
        spent = omega (arith, c.in_ok-sum.ensures.cost, c.in_ok-carry.ensures.cost, kept);
      },
      record {
        called = omega (arith, c.in_ok-sum.ensures.calls, c.in_ok-carry.ensures.calls);
        made = omega (arith, c.in_ok-sum.ensures.wires, c.in_ok-carry.ensures.wires);
      },
    )

pub loop-place-preserved : goal.loop-place-preserved
loop-place-preserved g c =
    let w = g.W.Wires in
    let inv = c.loop-place.invariant in
    let new = c.in_ok-terms.ensures in (
      saving_goes_on w.grown w.possible w.shape w.ands c.args.wires.now c.loop-place.wires c.save_term.new.wires c.args.left c.args.right
          c.loop-place.terms.sum c.loop-place.terms.carry c.in_ok-terms.terms.sum c.in_ok-terms.terms.carry (lanes_of (w.shape c.args.wires.now) c.args.left) c.loop-place.place
          inv.0 c.save_term.ensures.grows (inv.0.grows.keeps.lanes c.args.left.0 c.requires.left) new.sum new.carry new.cost,
      record { called = omega (arith, inv.1.called, new.calls); made = omega (arith, inv.1.made, new.wires) },
    )
