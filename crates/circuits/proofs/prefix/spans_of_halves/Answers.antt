use Rattle.std.proofs.Common.{◌∙◌, arith}
use Rattle.lanes.specs.Prefix.{span_after}
use Rattle.wires.specs.Growth.{lanes_of}
use Rattle.circuits.proofs.Levels.{grows_then}
use Rattle.circuits.proofs.Spans.{spans_go_on, wires_of_level}
use Rattle.circuits.proofs.Restated.{carried_on}
use Rattle.circuits.proofs.prefix.spans_of_halves.Goals as goal

pub loop-level-init : goal.loop-level-init
unfolding span_after
loop-level-init g c =
    let w = g.W.Wires in
    let kept = carried_on w.grown w.possible w.shape c.and.new.self c.xor.new.self c.in_ok-generate.generate _ _ c.xor.ensures.grows c.in_ok-generate.ensures.ok in
    let xor = c.in_ok-propagate.ensures.ok in (
      record {
        grows = grows_then w.grown w.possible w.shape c.args.wires.now c.and.new.self c.xor.new.self c.and.ensures.grows c.xor.ensures.grows;
        generate = record { made = kept.made; lanes = kept.lanes; value = kept.value };
        propagate = record { made = xor.made; lanes = xor.lanes ∙ c.and.ensures.grows.keeps.lanes c.args.left.0 c.requires.left; value = xor.value };
        spent = omega (arith, c.in_ok-generate.ensures.count, c.in_ok-propagate.ensures.count);
      },
      record {
        called = omega (arith, c.in_ok-generate.ensures.calls, c.in_ok-propagate.ensures.calls);
        made = omega (arith, c.in_ok-generate.ensures.wires, c.in_ok-propagate.ensures.wires);
      },
    )

pub loop-level-preserved : goal.loop-level-preserved
loop-level-preserved g c =
    let w = g.W.Wires in
    let inv = c.loop-level.invariant in
    let new = c.in_ok-spans.ensures in (
      spans_go_on w.grown w.possible w.shape w.ands c.args.wires.now c.loop-level.wires c.joined.new.wires c.args.left c.args.right
          c.loop-level.spans.generate c.loop-level.spans.propagate c.in_ok-spans.spans.generate c.in_ok-spans.spans.propagate c.halves_of.result
          (lanes_of (w.shape c.args.wires.now) c.args.left) c.loop-level.level
          inv.0 c.halves_of.ensures.are c.halves_of.ensures.level c.joined.ensures.grows new.generate new.propagate new.cost,
      record {
        called = omega (arith, inv.1.called, new.calls);
        made = omega (arith, inv.1.made, new.wires, c.halves_of.ensures.level, wires_of_level c.loop-level.level);
      },
    )

pub returns-in_err-spans-clause-grows : goal.returns-in_err-spans-clause-grows
returns-in_err-spans-clause-grows g c =
    let w = g.W.Wires in
    grows_then w.grown w.possible w.shape c.args.wires.now c.loop-level.wires c.joined.new.wires c.loop-level.invariant.0.grows c.joined.ensures.grows
