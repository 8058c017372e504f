use Rattle.std.proofs.Common.{◌≡◌, ℕ, ◌+◌, ◌*◌, ◌≤◌, List, length, refl, sym, ap, ◌∙◌, subst, arith}
use Rattle.std.specs.List.{range_with_len}
use Rattle.std.proofs.lemmas.List.FromFn.{length-range_with_len}
use Rattle.plain_operators.specs.Within.{HasColumns}
use Rattle.shared_ops.specs.declared.joint.Joint.{Joint}
use Rattle.shared_ops.specs.Firsts.{AreFirsts}
use Rattle.shared_ops.proofs.Elements.{range_below}
use Rattle.shared_ops.proofs.FirstTables.{distinct_makes}
use Rattle.shared_ops.proofs.GroupCosts.{distinct_costs}
use Rattle.shared_ops.proofs.distinct.distinct.Goals as goal

pub firsts-requires-clause-keys : goal.firsts-requires-clause-keys
firsts-requires-clause-keys g c =
    let width = length c.args.table.now.columns.items in
    subst (λ (keys : List ℕ). HasColumns keys width) (sym (c.as_slice.ensures.value ∙ c.in_ok-numbers.ensures)) (range_below width)

pub returns-clause-makes : goal.returns-clause-makes
returns-clause-makes g c =
    let w = g.W.Wires in
    let t = c.args.table.now in
    let firsts = c.in_ok-firsts.firsts in
    let new = c.firsts.new.wires in
    let made : Joint = record { columns = c.in_ok-columns.columns; valid = firsts.valid; rows = t.rows } in
    let is = subst (λ (keys : List ℕ). AreFirsts (w.possible new) (w.shape new) keys t firsts) (c.as_slice.ensures.value ∙ c.in_ok-numbers.ensures) c.in_ok-firsts.ensures.ok in
    distinct_makes w.grown w.possible w.shape g.met.W.Wires.fits c.args.wires.now new made t firsts c.operators_of_firsts.ensures.distinct c.bags_are_equivalence.ensures.itself c.requires.joint
    (c.in_ok-columns.ensures.items ∙ c.as_slice-2.ensures.value) refl refl c.in_ok-firsts.ensures.grows is

-- as many numbers as columns
many : (numbers : List ℕ) (width : ℕ) → numbers ≡ range_with_len 0 width → length numbers ≡ width
many numbers width is = ap length is ∙ length-range_with_len 0 width

-- what was paid, in numbers of columns
paid : (before after pairs width : ℕ) (numbers : List ℕ) → numbers ≡ range_with_len 0 width → after ≤ before + pairs * (7 * length numbers + 3) → after ≤ before + pairs * (7 * width + 4)
paid before after pairs width numbers is spent = distinct_costs before after pairs width (subst (λ (k : ℕ). after ≤ before + pairs * (7 * k + 3)) (many numbers width is) spent)

pub returns-clause-cost : goal.returns-clause-cost
returns-clause-cost g c =
    let w = g.W.Wires in
    let t = c.args.table.now in
    paid (w.ands c.args.wires.now) (w.ands c.firsts.new.wires) (t.rows * t.rows) (length t.columns.items) c.as_slice.result.now (c.as_slice.ensures.value ∙ c.in_ok-numbers.ensures) c.in_ok-firsts.ensures.cost

pub returns-in_err-firsts-clause-cost : goal.returns-in_err-firsts-clause-cost
returns-in_err-firsts-clause-cost g c =
    let w = g.W.Wires in
    let t = c.args.table.now in
    paid (w.ands c.args.wires.now) (w.ands c.firsts.new.wires) (t.rows * t.rows) (length t.columns.items) c.as_slice.result.now (c.as_slice.ensures.value ∙ c.in_ok-numbers.ensures) c.in_err-firsts.ensures.cost

pub returns-in_err-columns-clause-cost : goal.returns-in_err-columns-clause-cost
returns-in_err-columns-clause-cost g c =
    let w = g.W.Wires in
    let t = c.args.table.now in
    paid (w.ands c.args.wires.now) (w.ands c.firsts.new.wires) (t.rows * t.rows) (length t.columns.items) c.as_slice.result.now (c.as_slice.ensures.value ∙ c.in_ok-numbers.ensures) c.in_ok-firsts.ensures.cost

pub returns-clause-calls : goal.returns-clause-calls
returns-clause-calls g c = omega (arith, c.in_ok-firsts.ensures.calls, many c.as_slice.result.now (length c.args.table.now.columns.items) (c.as_slice.ensures.value ∙ c.in_ok-numbers.ensures))

pub returns-in_err-firsts-clause-calls : goal.returns-in_err-firsts-clause-calls
returns-in_err-firsts-clause-calls g c = omega (arith, c.in_err-firsts.ensures.calls, many c.as_slice.result.now (length c.args.table.now.columns.items) (c.as_slice.ensures.value ∙ c.in_ok-numbers.ensures))

pub returns-in_err-columns-clause-calls : goal.returns-in_err-columns-clause-calls
returns-in_err-columns-clause-calls g c = omega (arith, c.in_ok-firsts.ensures.calls, many c.as_slice.result.now (length c.args.table.now.columns.items) (c.as_slice.ensures.value ∙ c.in_ok-numbers.ensures))
