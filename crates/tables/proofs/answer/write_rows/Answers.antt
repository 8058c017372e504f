use Rattle.std.proofs.Common.{[], map, take, length, Some, sym, subst, ◌∙◌, ap, ◌++◌, arith}
use Rattle.std.proofs.lemmas.List.{get_or-map, length-map}
use Rattle.csv.specs.Writing.{default_writer, row_text}
use Rattle.tables.specs.Answer.{HasText, rows_text}
use Rattle.tables.proofs.AnswerText.{rows_text_more}
use Rattle.tables.proofs.answer.write_rows.Goals as goal

pub fill_record-requires : goal.fill_record-requires
fill_record-requires c =
    let rows = c.args.rows.now in
    let index = c.loop-row.row-index in
    let at = get_or-map (λ row. row.now) rows index _ [] c.loop-row-test.true in
    let count = length-map rows (λ row. row.now) in
    ap length (sym at) ∙ c.requires index [] (omega arith)

pub loop-row-preserved : goal.loop-row-preserved
loop-row-preserved c =
    let columns = c.args.columns.now in
    let text = rows_text columns (map (λ row. row.now) (take c.loop-row.row-index c.args.rows.now)) in
    let put = c.in_ok-put_record-2.ensures text c.loop-row.invariant in
    let more = rows_text_more columns c.args.rows.now c.loop-row.row-index _ c.loop-row-test.true in
    subst (HasText (λ v. Some v.items) c.put_record-in-loop-row.new.writer) (ap (λ fields. text ++ row_text default_writer fields) c.in_ok-fill_record.ensures ∙ sym more) put
