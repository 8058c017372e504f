use Rattle.std.proofs.Common.{◌≡◌, drop}
use Rattle.csv.specs.Records.{fields_of}
use Rattle.words.specs.Columns.{names_of}
use Rattle.tables.specs.File.{is_header}
use Rattle.tables.proofs.row.is_header.Given as goal

-- the record is the header exactly where the rest of it is the rest of the names
abbrev pub invariant-loop-index : goal.invariant-loop-index
invariant-loop-index l =
    is_header (names_of l.columns) (fields_of l.fields) ≡ is_header (drop l.index (names_of l.columns)) (drop l.index (fields_of l.fields))
