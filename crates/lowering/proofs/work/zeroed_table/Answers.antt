use Rattle.std.proofs.Common.{rules, sym, ◌∙◌}
use Rattle.std.specs.Prelude.{◌*◌, length}
use Rattle.step_lists.specs.Layout.{layout_of}
use Rattle.emit.specs.Ending.{at_end}
use Rattle.lowering.specs.Stored.{AreRegisters}
use Rattle.lowering.proofs.work.zeroed_table.Goals as goal

pub returns : goal.returns
returns c =
    let name = sym c.new-wires.ensures.name ∙ c.in_ok-new.ensures.grows.now.name in
    record {
      adds = c.wires_leave.ensures.adds _ _ c.zeroed.new.wires _ (λ l. c.args.table.now.rows * length c.args.table.now.columns.items) c.new-wires.ensures c.in_ok-new.ensures.grows.now (search (rules, name)) c.in_ok-new.ensures.cost;
      made = at_end (λ l. AreRegisters (layout_of l) c.args.table.now.rows (length c.args.table.now.columns.items) c.in_ok-new.new) c.zeroed.new.wires.list.now c.steps.ensures.well_formed (search (rules, name))
          (record { joint = c.in_ok-new.ensures.makes.joint; rows_are = c.in_ok-new.ensures.makes.rows; wide = c.in_ok-new.ensures.makes.wide });
      valid = c.in_ok-new.ensures.zeros.valid;
      columns = λ slots ds p.
          c.in_ok-new.ensures.zeros.columns _
          (c.wires_leave.ensures.opened c.zeroed.new.wires _ slots ds (record { well_formed = c.steps.ensures.well_formed; short = c.registers.ensures.short }) (search (rules, name)) p);
    }
