use Rattle.std.proofs.Common.{[], ◌∷◌, ◌++◌, get_or, ap, sym, ◌∙◌}
use Rattle.tables.specs.Answer.{written}
use Rattle.tables.proofs.AnswerText.{fields_more}
use Rattle.tables.proofs.answer.fill_record.Goals as goal

pub loop-index-preserved : goal.loop-index-preserved
loop-index-preserved c =
    let columns = c.args.columns.now in
    let row = c.args.row.now in
    let index = c.loop-index.index in
    let column = get_or columns index c.index-columns-index.result in
    let more = fields_more columns row index c.index-columns-index.result c.loop-index-test.true c.requires in
    (c.in_ok-push_word.ensures.whole, c.in_ok-push_word.ensures.fields ∙ ap (λ fields. fields ++ written column.kind (get_or row index 0) ∷ []) c.loop-index.invariant.1 ∙ sym more)
