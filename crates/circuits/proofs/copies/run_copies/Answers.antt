use Rattle.std.proofs.Common.{length, refl, ap, arith}
use Rattle.lanes.specs.Logarithm.{ceil_log2}
use Rattle.wires.specs.Growth.{lanes_of}
use Rattle.circuits.proofs.CopySteps.{copies_cost, copies_made, copies_within}
use Rattle.circuits.proofs.copies.run_copies.Goals as goal

pub returns-clause-made : goal.returns-clause-made
returns-clause-made g c =
    let w = g.W.Wires in
    let copies = c.in_ok-copies.ensures in
    copies_made (w.possible c.copy_all.new.wires) (w.shape c.copy_all.new.wires) c.args.joined c.args.columns.now c.in_ok-copies.copies.items _ copies.ok copies.count

pub returns-in_err-flags-clause-cost : goal.returns-in_err-flags-clause-cost
returns-in_err-flags-clause-cost g c =
    let w = g.W.Wires in
    let n = lanes_of (w.shape c.args.wires.now) c.args.joined in
    let enough = c.log_laws.ensures.least.enough n in
    let flags = c.in_err-flags.ensures in
    let ands = w.ands c.level_flags.new.wires in
    copies_cost (w.ands c.args.wires.now) ands ands (length c.args.columns.now) 0 0 n n (ceil_log2 n) (flags.cost (ceil_log2 n) enough) (omega arith) refl refl (omega arith)

pub returns-in_err-flags-clause-calls : goal.returns-in_err-flags-clause-calls
returns-in_err-flags-clause-calls g c =
    let w = g.W.Wires in
    let n = lanes_of (w.shape c.args.wires.now) c.args.joined in
    let enough = c.log_laws.ensures.least.enough n in
    let flags = c.in_err-flags.ensures in
    let all = copies_within (w.and_calls c.args.wires.now) (w.and_calls c.level_flags.new.wires) (w.and_calls c.level_flags.new.wires) 0 1 1 (length c.args.columns.now) 0 0 (ceil_log2 n) (omega (arith, flags.calls (ceil_log2 n) enough)) (omega arith) refl (omega arith) in
    omega (arith, all)

pub returns-in_err-flags-clause-wires : goal.returns-in_err-flags-clause-wires
returns-in_err-flags-clause-wires g c =
    let w = g.W.Wires in
    let n = lanes_of (w.shape c.args.wires.now) c.args.joined in
    let enough = c.log_laws.ensures.least.enough n in
    let flags = c.in_err-flags.ensures in
    let all = copies_within (length (w.shape c.args.wires.now)) (length (w.shape c.level_flags.new.wires)) (length (w.shape c.level_flags.new.wires)) 3 2 5 (length c.args.columns.now) 0 0 (ceil_log2 n) (omega (arith, flags.wires (ceil_log2 n) enough)) (omega arith) refl (omega arith) in
    omega (arith, all)

pub returns-in_err-copies-clause-cost : goal.returns-in_err-copies-clause-cost
returns-in_err-copies-clause-cost g c =
    let w = g.W.Wires in
    let n = lanes_of (w.shape c.args.wires.now) c.args.joined in
    let enough = c.log_laws.ensures.least.enough n in
    let flags = c.in_ok-flags.ensures in
    copies_cost (w.ands c.args.wires.now) (w.ands c.level_flags.new.wires) (w.ands c.copy_all.new.wires) (length c.args.columns.now) (length c.in_ok-flags.flags.items) (length c.as_slice.result.now)
    n (lanes_of (w.shape c.level_flags.new.wires) c.args.joined) (ceil_log2 n)
    (flags.cost (ceil_log2 n) enough) c.in_err-copies.ensures.cost (ap length c.as_slice.ensures.value) (c.level_flags.ensures.grows.keeps.lanes c.args.joined.0 c.requires.joined) (flags.fewest (ceil_log2 n) enough)

pub returns-in_err-copies-clause-calls : goal.returns-in_err-copies-clause-calls
returns-in_err-copies-clause-calls g c =
    let w = g.W.Wires in
    let n = lanes_of (w.shape c.args.wires.now) c.args.joined in
    let enough = c.log_laws.ensures.least.enough n in
    let flags = c.in_ok-flags.ensures in
    let all = copies_within (w.and_calls c.args.wires.now) (w.and_calls c.level_flags.new.wires) (w.and_calls c.copy_all.new.wires) 0 1 1 (length c.args.columns.now) (length c.in_ok-flags.flags.items) (length c.as_slice.result.now) (ceil_log2 n)
    (omega (arith, flags.calls (ceil_log2 n) enough)) (omega (arith, c.in_err-copies.ensures.calls)) (ap length c.as_slice.ensures.value) (flags.fewest (ceil_log2 n) enough) in
    omega (arith, all)

pub returns-in_err-copies-clause-wires : goal.returns-in_err-copies-clause-wires
returns-in_err-copies-clause-wires g c =
    let w = g.W.Wires in
    let n = lanes_of (w.shape c.args.wires.now) c.args.joined in
    let enough = c.log_laws.ensures.least.enough n in
    let flags = c.in_ok-flags.ensures in
    let all = copies_within (length (w.shape c.args.wires.now)) (length (w.shape c.level_flags.new.wires)) (length (w.shape c.copy_all.new.wires)) 3 2 5 (length c.args.columns.now) (length c.in_ok-flags.flags.items) (length c.as_slice.result.now) (ceil_log2 n)
    (omega (arith, flags.wires (ceil_log2 n) enough)) (omega (arith, c.in_err-copies.ensures.wires)) (ap length c.as_slice.ensures.value) (flags.fewest (ceil_log2 n) enough) in
    omega (arith, all)

pub returns-clause-cost : goal.returns-clause-cost
returns-clause-cost g c =
    let w = g.W.Wires in
    let n = lanes_of (w.shape c.args.wires.now) c.args.joined in
    let enough = c.log_laws.ensures.least.enough n in
    let flags = c.in_ok-flags.ensures in
    copies_cost (w.ands c.args.wires.now) (w.ands c.level_flags.new.wires) (w.ands c.copy_all.new.wires) (length c.args.columns.now) (length c.in_ok-flags.flags.items) (length c.as_slice.result.now)
    n (lanes_of (w.shape c.level_flags.new.wires) c.args.joined) (ceil_log2 n)
    (flags.cost (ceil_log2 n) enough) c.in_ok-copies.ensures.cost (ap length c.as_slice.ensures.value) (c.level_flags.ensures.grows.keeps.lanes c.args.joined.0 c.requires.joined) (flags.fewest (ceil_log2 n) enough)

pub returns-clause-calls : goal.returns-clause-calls
returns-clause-calls g c =
    let w = g.W.Wires in
    let n = lanes_of (w.shape c.args.wires.now) c.args.joined in
    let enough = c.log_laws.ensures.least.enough n in
    let flags = c.in_ok-flags.ensures in
    let all = copies_within (w.and_calls c.args.wires.now) (w.and_calls c.level_flags.new.wires) (w.and_calls c.copy_all.new.wires) 0 1 1 (length c.args.columns.now) (length c.in_ok-flags.flags.items) (length c.as_slice.result.now) (ceil_log2 n)
    (omega (arith, flags.calls (ceil_log2 n) enough)) (omega (arith, c.in_ok-copies.ensures.calls)) (ap length c.as_slice.ensures.value) (flags.fewest (ceil_log2 n) enough) in
    omega (arith, all)

pub returns-clause-wires : goal.returns-clause-wires
returns-clause-wires g c =
    let w = g.W.Wires in
    let n = lanes_of (w.shape c.args.wires.now) c.args.joined in
    let enough = c.log_laws.ensures.least.enough n in
    let flags = c.in_ok-flags.ensures in
    let all = copies_within (length (w.shape c.args.wires.now)) (length (w.shape c.level_flags.new.wires)) (length (w.shape c.copy_all.new.wires)) 3 2 5 (length c.args.columns.now) (length c.in_ok-flags.flags.items) (length c.as_slice.result.now) (ceil_log2 n)
    (omega (arith, flags.wires (ceil_log2 n) enough)) (omega (arith, c.in_ok-copies.ensures.wires)) (ap length c.as_slice.ensures.value) (flags.fewest (ceil_log2 n) enough) in
    omega (arith, all)
