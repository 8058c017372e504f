use Rattle.std.proofs.Common.{◌<◌, [], ◌∷◌, length, ap, ◌∙◌, arith, length-append}
use Rattle.wires.specs.Growth.{lanes_of}
use Rattle.circuits.proofs.RunSteps.{cost_of_more, flagging_begins, flagging_goes_on, one_more}
use Rattle.circuits.proofs.run_flags.level_flags.Goals as goal

pub loop-places-init : goal.loop-places-init
loop-places-init g c =
    let w = g.W.Wires in (
      flagging_begins w.grown w.possible w.shape w.ands c.args.wires.now c.first_flags.new.wires c.args.joined c.in_ok-flag.flag c.new-flags.result.items
          (lanes_of (w.shape c.args.wires.now) c.args.joined) c.first_flags.ensures.grows c.in_ok-flag.ensures.ok c.in_ok-flag.ensures.count c.new-flags.ensures.items,
      record {
        called = omega (arith, c.in_ok-flag.ensures.calls, ap length c.new-flags.ensures.items);
        made = omega (arith, c.in_ok-flag.ensures.wires, ap length c.new-flags.ensures.items);
      },
    )

pub loop-places-preserved : goal.loop-places-preserved
loop-places-preserved g c =
    let w = g.W.Wires in
    let n = lanes_of (w.shape c.args.wires.now) c.args.joined in
    let below : c.loop-places.places < n = omega (arith, c.loop-places-test.true, c.lanes-lanes.ensures.lanes) in
    let inv = c.loop-places.invariant in
    let long = ap length c.in_ok-push.ensures.items ∙ length-append c.loop-places.flags.items (c.loop-places.flag ∷ []) in (
      flagging_goes_on w.grown w.possible w.shape w.ands c.args.wires.now c.loop-places.wires c.further_flags.new.wires c.args.joined c.loop-places.flag c.in_ok-next.next
          c.loop-places.flags.items c.push.new.self.items n c.loop-places.places inv.0 c.further_flags.ensures.grows c.in_ok-next.ensures.ok c.in_ok-next.ensures.cost
          c.in_ok-push.ensures.items below,
      record { called = omega (arith, inv.1.called, c.in_ok-next.ensures.calls, long); made = omega (arith, inv.1.made, c.in_ok-next.ensures.wires, long) },
    )

pub returns-in_err-next-clause-cost : goal.returns-in_err-next-clause-cost
returns-in_err-next-clause-cost g c levels enough =
    let w = g.W.Wires in
    let n = lanes_of (w.shape c.args.wires.now) c.args.joined in
    let inv = c.loop-places.invariant.0 in
    let below : c.loop-places.places < n = omega (arith, c.loop-places-test.true, c.lanes-lanes.ensures.lanes) in
    let more = one_more w.grown w.possible w.shape w.ands c.args.wires.now c.loop-places.wires c.args.joined c.loop-places.flag c.loop-places.flags.items n c.loop-places.places inv below levels enough in
    omega (arith, inv.spent, inv.next.lanes, c.in_err-next.ensures.cost, cost_of_more (length c.loop-places.flags.items) n levels more)

pub returns-in_err-push-clause-cost : goal.returns-in_err-push-clause-cost
returns-in_err-push-clause-cost g c levels enough =
    let w = g.W.Wires in
    let n = lanes_of (w.shape c.args.wires.now) c.args.joined in
    let inv = c.loop-places.invariant.0 in
    let below : c.loop-places.places < n = omega (arith, c.loop-places-test.true, c.lanes-lanes.ensures.lanes) in
    let more = one_more w.grown w.possible w.shape w.ands c.args.wires.now c.loop-places.wires c.args.joined c.loop-places.flag c.loop-places.flags.items n c.loop-places.places inv below levels enough in
    omega (arith, inv.spent, inv.next.lanes, c.in_ok-next.ensures.cost, cost_of_more (length c.loop-places.flags.items) n levels more)

pub returns-clause-few : goal.returns-clause-few
returns-clause-few g c = c.loop-places.invariant.0.fewest 32 (omega (arith, c.lanes-lanes.ensures.lanes, c.lanes-lanes.ensures.few))

pub returns-in_err-next-clause-calls : goal.returns-in_err-next-clause-calls
returns-in_err-next-clause-calls g c levels enough =
    let w = g.W.Wires in
    let n = lanes_of (w.shape c.args.wires.now) c.args.joined in
    let inv = c.loop-places.invariant in
    let below : c.loop-places.places < n = omega (arith, c.loop-places-test.true, c.lanes-lanes.ensures.lanes) in
    let more = one_more w.grown w.possible w.shape w.ands c.args.wires.now c.loop-places.wires c.args.joined c.loop-places.flag c.loop-places.flags.items n c.loop-places.places inv.0 below levels enough in
    omega (arith, inv.1.called, c.in_err-next.ensures.calls, more)

pub returns-in_err-next-clause-wires : goal.returns-in_err-next-clause-wires
returns-in_err-next-clause-wires g c levels enough =
    let w = g.W.Wires in
    let n = lanes_of (w.shape c.args.wires.now) c.args.joined in
    let inv = c.loop-places.invariant in
    let below : c.loop-places.places < n = omega (arith, c.loop-places-test.true, c.lanes-lanes.ensures.lanes) in
    let more = one_more w.grown w.possible w.shape w.ands c.args.wires.now c.loop-places.wires c.args.joined c.loop-places.flag c.loop-places.flags.items n c.loop-places.places inv.0 below levels enough in
    omega (arith, inv.1.made, c.in_err-next.ensures.wires, more)

pub returns-in_err-push-clause-calls : goal.returns-in_err-push-clause-calls
returns-in_err-push-clause-calls g c levels enough =
    let w = g.W.Wires in
    let n = lanes_of (w.shape c.args.wires.now) c.args.joined in
    let inv = c.loop-places.invariant in
    let below : c.loop-places.places < n = omega (arith, c.loop-places-test.true, c.lanes-lanes.ensures.lanes) in
    let more = one_more w.grown w.possible w.shape w.ands c.args.wires.now c.loop-places.wires c.args.joined c.loop-places.flag c.loop-places.flags.items n c.loop-places.places inv.0 below levels enough in
    omega (arith, inv.1.called, c.in_ok-next.ensures.calls, more)

pub returns-in_err-push-clause-wires : goal.returns-in_err-push-clause-wires
returns-in_err-push-clause-wires g c levels enough =
    let w = g.W.Wires in
    let n = lanes_of (w.shape c.args.wires.now) c.args.joined in
    let inv = c.loop-places.invariant in
    let below : c.loop-places.places < n = omega (arith, c.loop-places-test.true, c.lanes-lanes.ensures.lanes) in
    let more = one_more w.grown w.possible w.shape w.ands c.args.wires.now c.loop-places.wires c.args.joined c.loop-places.flag c.loop-places.flags.items n c.loop-places.places inv.0 below levels enough in
    omega (arith, inv.1.made, c.in_ok-next.ensures.wires, more)

pub returns-clause-calls : goal.returns-clause-calls
returns-clause-calls g c levels enough =
    let inv = c.loop-places.invariant in
    omega (arith, inv.1.called, inv.0.fewest levels enough)

pub returns-clause-wires : goal.returns-clause-wires
returns-clause-wires g c levels enough =
    let inv = c.loop-places.invariant in
    omega (arith, inv.1.made, inv.0.fewest levels enough)
