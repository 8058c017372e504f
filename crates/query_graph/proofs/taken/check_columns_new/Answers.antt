use Rattle.std.proofs.Common.{rules, ◌≡◌, Some, ap, sym, ◌∙◌}
use Rattle.query_graph.specs.declared.fault.GraphFault.TheVariants.{Taken}
use Rattle.query_graph.specs.Columns.{repeated_column}
use Rattle.query_graph.proofs.Repeats.{name_added, name_passes, name_repeats}
use Rattle.query_graph.proofs.taken.check_columns_new.Goals as goal

pub returns-then-not-branch-clause-rules : goal.returns-then-not-branch-clause-rules
returns-then-not-branch-clause-rules c =
    let copied : c.in_ok-name.name ≡ c.column-item.result.name = grind rules in
    name_repeats c.args.line c.args.columns.now c.loop-column.column-index c.column-item.result c.loop-column.names c.in_ok-add.field-0 (repeated_column c.args.line c.args.columns.now)
    c.loop-column-test.true c.column-item.is c.loop-column.invariant.0 (rw c.bytes.ensures at c.in_ok-add.ensures.new) c.loop-column.invariant.1 c.if-not-branch.true
    ∙ ap (λ name. Some (Taken c.args.line name)) (sym copied)

pub loop-column-preserved : goal.loop-column-preserved
loop-column-preserved c = (
  name_added c.args.line c.args.columns.now c.loop-column.column-index c.column-item.result c.loop-column.names c.in_ok-add.field-0 (repeated_column c.args.line c.args.columns.now)
      c.loop-column-test.true c.column-item.is c.loop-column.invariant.0 (rw c.bytes.ensures at c.in_ok-add.ensures.new) c.loop-column.invariant.1
      c.add.new.self c.if-not-branch.false (rw c.bytes.ensures at c.in_ok-add.ensures.added),
  name_passes c.args.line c.args.columns.now c.loop-column.column-index c.column-item.result c.loop-column.names c.in_ok-add.field-0 (repeated_column c.args.line c.args.columns.now)
      c.loop-column-test.true c.column-item.is c.loop-column.invariant.0 (rw c.bytes.ensures at c.in_ok-add.ensures.new) c.loop-column.invariant.1
      c.if-not-branch.false,
)
