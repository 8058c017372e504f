use Rattle.std.proofs.Common.{rules, sym, ◌∙◌}
use Rattle.std.specs.Prelude.{◌*◌}
use Rattle.step_lists.specs.Layout.{layout_of, length_of}
use Rattle.tests_compiler.proofs.pieces.push_equal.Goals as goal

pub returns-in_err-new-clause-adds : goal.returns-in_err-new-clause-adds
returns-in_err-new-clause-adds g c =
    let grown = c.in_err-new.ensures.grows.now in
    let name = sym c.new-wires.ensures.name ∙ grown.name in
    c.wires_leave.ensures.adds _ _ c.eq.new.wires _ (λ l. 6 * length_of (layout_of l) c.args.left) c.new-wires.ensures grown (search (rules, name)) c.in_err-new.ensures.cost

pub returns-clause-adds : goal.returns-clause-adds
returns-clause-adds g c =
    let grown = c.in_ok-new.ensures.grows.now in
    let name = sym c.new-wires.ensures.name ∙ grown.name in
    c.wires_leave.ensures.adds _ _ c.eq.new.wires _ (λ l. 6 * length_of (layout_of l) c.args.left) c.new-wires.ensures grown (search (rules, name)) c.in_ok-new.ensures.cost

pub returns-clause-value : goal.returns-clause-value
returns-clause-value g c =
    let name = sym c.new-wires.ensures.name ∙ c.in_ok-new.ensures.grows.now.name in
    λ slots ds p.
    c.in_ok-new.ensures.ok.value _
    (c.wires_leave.ensures.opened c.eq.new.wires _ slots ds (record { well_formed = c.steps.ensures.well_formed; short = c.registers.ensures.short }) (search (rules, name)) p)
