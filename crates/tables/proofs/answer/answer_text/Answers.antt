use Rattle.std.proofs.Common.{map, ap, ◌∙◌}
use Rattle.bags.specs.Sorted.{sorted}
use Rattle.tables.proofs.AnswerText.{sorted_rectangular}
use Rattle.tables.proofs.answer.answer_text.Goals as goal

pub write_rows-requires : goal.write_rows-requires
write_rows-requires c =
    let rows = ap (map (λ row. row.now)) c.as_slice-2.ensures.value ∙ c.sort_rows.ensures.sorted ∙ ap sorted c.in_ok-rows.ensures.rows in
    let columns = c.as_slice.ensures.value ∙ c.columns.ensures.columns in
    rw (rows, columns) (sorted_rectangular c.bags_are_equivalence.ensures c.bags_keep_rows.ensures c.sorted_is_in_order.ensures c.args.table.now c.columns.ensures.rectangular)
