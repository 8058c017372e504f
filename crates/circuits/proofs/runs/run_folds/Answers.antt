use Rattle.std.proofs.Common.{◌+◌, length, refl, ap, arith}
use Rattle.lanes.specs.Logarithm.{ceil_log2}
use Rattle.wires.specs.Growth.{lanes_of}
use Rattle.circuits.specs.Folds.{combine_calls, combine_cost, combine_wires}
use Rattle.circuits.proofs.Levels.{grows_then}
use Rattle.circuits.proofs.RunSteps.{scan_cost, scan_within}
use Rattle.circuits.proofs.runs.run_folds.Goals as goal

pub returns-clause-grows : goal.returns-clause-grows
returns-clause-grows g c =
    let w = g.W.Wires in
    grows_then w.grown w.possible w.shape c.args.wires.now c.level_flags.new.wires c.scan.new.wires c.level_flags.ensures.grows c.scan.ensures.grows

pub returns-in_err-new-clause-cost : goal.returns-in_err-new-clause-cost
returns-in_err-new-clause-cost g c =
    let w = g.W.Wires in
    let n = lanes_of (w.shape c.args.wires.now) c.args.joined in
    let enough = c.log_laws.ensures.least.enough n in
    let flags = c.in_ok-flags.ensures in
    scan_cost (w.ands c.args.wires.now) (w.ands c.level_flags.new.wires) (w.ands c.scan.new.wires) (combine_cost c.args.fold) (length c.in_ok-flags.flags.items) (length c.as_slice.result.now)
    n (lanes_of (w.shape c.level_flags.new.wires) c.args.joined) (ceil_log2 n)
    (flags.cost (ceil_log2 n) enough) c.in_err-new.ensures.cost (ap length c.as_slice.ensures.value) (c.level_flags.ensures.grows.keeps.lanes c.args.joined.0 c.requires.joined) (flags.fewest (ceil_log2 n) enough)

pub returns-in_err-new-clause-calls : goal.returns-in_err-new-clause-calls
returns-in_err-new-clause-calls g c =
    let w = g.W.Wires in
    let n = lanes_of (w.shape c.args.wires.now) c.args.joined in
    let enough = c.log_laws.ensures.least.enough n in
    let flags = c.in_ok-flags.ensures in
    let all = scan_within (w.and_calls c.args.wires.now) (w.and_calls c.level_flags.new.wires) (w.and_calls c.scan.new.wires) 0 1 (combine_calls c.args.fold + 1) (length c.in_ok-flags.flags.items)
    (length c.as_slice.result.now) (ceil_log2 n) (omega (arith, flags.calls (ceil_log2 n) enough)) c.in_err-new.ensures.calls (ap length c.as_slice.ensures.value) (flags.fewest (ceil_log2 n) enough) in
    omega (arith, all)

pub returns-in_err-new-clause-wires : goal.returns-in_err-new-clause-wires
returns-in_err-new-clause-wires g c =
    let w = g.W.Wires in
    let n = lanes_of (w.shape c.args.wires.now) c.args.joined in
    let enough = c.log_laws.ensures.least.enough n in
    let flags = c.in_ok-flags.ensures in
    let all = scan_within (length (w.shape c.args.wires.now)) (length (w.shape c.level_flags.new.wires)) (length (w.shape c.scan.new.wires)) 3 2 (combine_wires c.args.fold + 5) (length c.in_ok-flags.flags.items)
    (length c.as_slice.result.now) (ceil_log2 n) (flags.wires (ceil_log2 n) enough) c.in_err-new.ensures.wires (ap length c.as_slice.ensures.value) (flags.fewest (ceil_log2 n) enough) in
    omega (arith, all)

pub returns-clause-cost : goal.returns-clause-cost
returns-clause-cost g c =
    let w = g.W.Wires in
    let n = lanes_of (w.shape c.args.wires.now) c.args.joined in
    let enough = c.log_laws.ensures.least.enough n in
    let flags = c.in_ok-flags.ensures in
    scan_cost (w.ands c.args.wires.now) (w.ands c.level_flags.new.wires) (w.ands c.scan.new.wires) (combine_cost c.args.fold) (length c.in_ok-flags.flags.items) (length c.as_slice.result.now)
    n (lanes_of (w.shape c.level_flags.new.wires) c.args.joined) (ceil_log2 n)
    (flags.cost (ceil_log2 n) enough) c.in_ok-new.ensures.cost (ap length c.as_slice.ensures.value) (c.level_flags.ensures.grows.keeps.lanes c.args.joined.0 c.requires.joined) (flags.fewest (ceil_log2 n) enough)

pub returns-clause-calls : goal.returns-clause-calls
returns-clause-calls g c =
    let w = g.W.Wires in
    let n = lanes_of (w.shape c.args.wires.now) c.args.joined in
    let enough = c.log_laws.ensures.least.enough n in
    let flags = c.in_ok-flags.ensures in
    let all = scan_within (w.and_calls c.args.wires.now) (w.and_calls c.level_flags.new.wires) (w.and_calls c.scan.new.wires) 0 1 (combine_calls c.args.fold + 1) (length c.in_ok-flags.flags.items)
    (length c.as_slice.result.now) (ceil_log2 n) (omega (arith, flags.calls (ceil_log2 n) enough)) c.in_ok-new.ensures.calls (ap length c.as_slice.ensures.value) (flags.fewest (ceil_log2 n) enough) in
    omega (arith, all)

pub returns-clause-wires : goal.returns-clause-wires
returns-clause-wires g c =
    let w = g.W.Wires in
    let n = lanes_of (w.shape c.args.wires.now) c.args.joined in
    let enough = c.log_laws.ensures.least.enough n in
    let flags = c.in_ok-flags.ensures in
    let all = scan_within (length (w.shape c.args.wires.now)) (length (w.shape c.level_flags.new.wires)) (length (w.shape c.scan.new.wires)) 3 2 (combine_wires c.args.fold + 5) (length c.in_ok-flags.flags.items)
    (length c.as_slice.result.now) (ceil_log2 n) (flags.wires (ceil_log2 n) enough) c.in_ok-new.ensures.wires (ap length c.as_slice.ensures.value) (flags.fewest (ceil_log2 n) enough) in
    omega (arith, all)

pub returns-in_err-flags-clause-cost : goal.returns-in_err-flags-clause-cost
returns-in_err-flags-clause-cost g c =
    let w = g.W.Wires in
    let n = lanes_of (w.shape c.args.wires.now) c.args.joined in
    let enough = c.log_laws.ensures.least.enough n in
    let ands = w.ands c.level_flags.new.wires in
    scan_cost (w.ands c.args.wires.now) ands ands (combine_cost c.args.fold) 0 0 n n (ceil_log2 n)
    (c.in_err-flags.ensures.cost (ceil_log2 n) enough) (omega arith) refl refl (omega arith)

pub returns-in_err-flags-clause-calls : goal.returns-in_err-flags-clause-calls
returns-in_err-flags-clause-calls g c =
    let w = g.W.Wires in
    let n = lanes_of (w.shape c.args.wires.now) c.args.joined in
    let enough = c.log_laws.ensures.least.enough n in
    let calls = w.and_calls c.level_flags.new.wires in
    let all = scan_within (w.and_calls c.args.wires.now) calls calls 0 1 (combine_calls c.args.fold + 1) 0 0 (ceil_log2 n)
    (omega (arith, c.in_err-flags.ensures.calls (ceil_log2 n) enough)) (omega arith) refl (omega arith) in
    omega (arith, all)

pub returns-in_err-flags-clause-wires : goal.returns-in_err-flags-clause-wires
returns-in_err-flags-clause-wires g c =
    let w = g.W.Wires in
    let n = lanes_of (w.shape c.args.wires.now) c.args.joined in
    let enough = c.log_laws.ensures.least.enough n in
    let made = length (w.shape c.level_flags.new.wires) in
    let all = scan_within (length (w.shape c.args.wires.now)) made made 3 2 (combine_wires c.args.fold + 5) 0 0 (ceil_log2 n)
    (c.in_err-flags.ensures.wires (ceil_log2 n) enough) (omega arith) refl (omega arith) in
    omega (arith, all)
