use Rattle.std.proofs.Common.{◌≡◌, ◌++◌, drop}
use Rattle.csv.specs.Records.{fields_of}
use Rattle.words.specs.Columns.{kinds_of}
use Rattle.tables.specs.Outcome.{map_ok}
use Rattle.tables.specs.File.{words_of}
use Rattle.tables.proofs.row.read_row.Given as goal

-- the record's words are those so far and those of the rest
abbrev pub invariant-loop-index : goal.invariant-loop-index
invariant-loop-index l =
    words_of l.line 0 (kinds_of l.columns) (fields_of l.fields)
    ≡ map_ok (λ words. l.row.items ++ words) (words_of l.line l.index (drop l.index (kinds_of l.columns)) (drop l.index (fields_of l.fields)))
