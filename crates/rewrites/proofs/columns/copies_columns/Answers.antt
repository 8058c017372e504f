use Rattle.std.proofs.Common.{sym, ◌∙◌}
use Rattle.std.specs.List.{list_any}
use Rattle.rewrites.specs.Up.{is_copy}
use Rattle.rewrites.proofs.EachColumn.{one_fails, one_more}
use Rattle.rewrites.proofs.columns.copies_columns.Goals as goal

pub returns-then-not-some_is_copy : goal.returns-then-not-some_is_copy
returns-then-not-some_is_copy c =
    one_fails (λ column. list_any (λ item. is_copy column item) c.args.items.now) c.args.width c.loop-column.column c.loop-column-test.true (sym c.some_is_copy.ensures ∙ c.if-not-some_is_copy.true)

pub loop-column-preserved : goal.loop-column-preserved
loop-column-preserved c =
    one_more (λ column. list_any (λ item. is_copy column item) c.args.items.now) c.loop-column.column c.loop-column.invariant (sym c.some_is_copy.ensures ∙ c.if-not-some_is_copy.false)
