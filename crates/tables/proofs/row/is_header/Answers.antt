use Rattle.csv.specs.Records.{fields_of}
use Rattle.std.proofs.Common.{true, false, sym, ◌∙◌}
use Rattle.tables.proofs.Fields.{header_step}
use Rattle.tables.proofs.row.is_header.Goals as goal

pub returns-then-not-is_name : goal.returns-then-not-is_name
returns-then-not-is_name c =
    let step = header_step c.args.columns.now (fields_of c.args.fields.now) c.loop-index.index c.index-columns-index.result false c.loop-index-test.true c.index-columns-index.is c.if-not-is_name.ensures in
    sym (c.loop-index.invariant ∙ step)

pub loop-index-preserved : goal.loop-index-preserved
loop-index-preserved c =
    let step = header_step c.args.columns.now (fields_of c.args.fields.now) c.loop-index.index c.index-columns-index.result true c.loop-index-test.true c.index-columns-index.is c.if-not-is_name.ensures in
    c.loop-index.invariant ∙ step
