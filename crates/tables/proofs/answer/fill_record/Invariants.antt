use Rattle.std.proofs.Common.{◌≡◌, [], take}
use Rattle.csv.specs.Records.{fields_of, partial_of}
use Rattle.words.specs.Columns.{kinds_of}
use Rattle.tables.specs.Answer.{fields_written_of}
use Rattle.tables.proofs.answer.fill_record.Given as goal

abbrev pub invariant-loop-index : goal.invariant-loop-index
invariant-loop-index l = (partial_of l.fields ≡ []) × (fields_of l.fields ≡ fields_written_of (kinds_of l.columns) (take l.index l.row))
