use Rattle.std.proofs.Common.{◌≡◌, length, map, sym, ap, ◌∙◌}
use Rattle.std.proofs.lemmas.List.{length-map}
use Rattle.tapes.specs.RowLaws.{rows_across}
use Rattle.step_lists.specs.Shapes.{word_lists}
use Rattle.twin.proofs.OrdersAligned.{rows_long}
use Rattle.twin.proofs.Revealing.{ok_map}
use Rattle.twin.proofs.compare.open_rows.Goals as goal

pub returns-clause-count : goal.returns-clause-count
returns-clause-count c =
    let columns = map (λ column. column.items) c.deref.result.now in
    ok_map (λ rows. word_lists rows ≡ rows_across c.args.rows columns) (λ made. length made.items ≡ c.args.rows) c.rows_of_columns.result
    (λ rows e. sym (length-map rows.items (λ row. row.items)) ∙ (ap length e ∙ rows_long c.args.rows columns)) c.rows_of_columns.ensures
