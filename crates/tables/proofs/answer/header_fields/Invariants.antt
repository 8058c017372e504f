use Rattle.std.proofs.Common.{◌≡◌, [], take}
use Rattle.csv.specs.Records.{fields_of, partial_of}
use Rattle.words.specs.Columns.{names_of}
use Rattle.tables.proofs.answer.header_fields.Given as goal

abbrev pub invariant-loop-column : goal.invariant-loop-column
invariant-loop-column l = (partial_of l.fields ≡ []) × (fields_of l.fields ≡ names_of (take l.column-index l.columns))
