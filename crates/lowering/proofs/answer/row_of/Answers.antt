use Rattle.std.proofs.Common.{◌≡◌, ◌∷◌, [], ◌++◌, get_or, length, map, ap, sym, ◌∙◌, arith}
use Rattle.std.specs.List.{range_with_len}
use Rattle.step_lists.specs.Open.{item}
use Rattle.step_lists.specs.Shapes.{word_lists}
use Rattle.tapes.specs.RowLaws.{row_across}
use Rattle.lowering.proofs.Rows.{row_more, row_wide}
use Rattle.lowering.proofs.answer.row_of.Goals as goal

pub loop-column-preserved : goal.loop-column-preserved
loop-column-preserved c =
    let words = word_lists c.args.slots.now in
    c.in_ok-push.ensures.items ∙ ap (λ row. row ++ c.word_at.result ∷ []) c.loop-column.invariant
    ∙ ap (λ word. row_across (map (item words) (range_with_len c.args.first c.loop-column.column)) c.args.place ++ word ∷ []) (c.word_at.ensures ∙ ap (λ column. get_or column c.args.place 0) c.slot_at.ensures)
    ∙ sym (row_more (item words) c.args.first c.loop-column.column c.args.place)

pub returns-clause-wide : goal.returns-clause-wide
returns-clause-wide c =
    let end : c.loop-column.column ≡ c.args.width = omega (arith, c.loop-column-test.false, c.loop-column.auto.column-end) in
    ap length c.loop-column.invariant ∙ row_wide (item (word_lists c.args.slots.now)) c.args.first c.loop-column.column c.args.place ∙ end
