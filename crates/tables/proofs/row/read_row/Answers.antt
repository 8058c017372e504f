use Rattle.csv.specs.Records.{fields_of}
use Rattle.std.proofs.Common.{arith}
use Rattle.std.proofs.lemmas.Result.{err_from_is_err_and}
use Rattle.tables.proofs.Fields.{words_more, row_fails}
use Rattle.tables.proofs.row.read_row.Goals as goal

pub returns-in_err-read_field : goal.returns-in_err-read_field
returns-in_err-read_field c =
    let p = err_from_is_err_and c.from_residual.result c.from_residual.ensures.1 in
    rw (p.1, p.2)
    (row_fails (λ (_ : Unit {0}). c.loop-index.row.items) c.args.line c.args.columns.now (fields_of c.args.fields.now) c.loop-index.index c.index-columns-index.result c.loop-index.row.items _
    c.loop-index-test.true c.index-columns-index.is (grind arith) c.loop-index.invariant c.in_err-read_field.ensures)

pub loop-index-preserved : goal.loop-index-preserved
loop-index-preserved c =
    rw c.in_ok-push.ensures.items
    (words_more c.args.line c.args.columns.now (fields_of c.args.fields.now) c.loop-index.index c.index-columns-index.result c.loop-index.row.items
    c.in_ok-read_field.field-0 c.loop-index-test.true c.index-columns-index.is c.loop-index.invariant c.in_ok-read_field.ensures)
