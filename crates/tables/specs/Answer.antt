-- The text of an answer: a header, and the rows in order, each a record of the default writer.
use Rattle.std.specs.Prelude.{◌≡◌, ℕ, false, List, [], ◌∷◌, ◌++◌, Option, Some}
use Rattle.std.specs.Fmt.{decimal}
use Rattle.std.specs.List.{flat_map}
use Rattle.bags.specs.Bag.{SameBag}
use Rattle.bags.specs.Sorted.{sorted}
use Rattle.csv.specs.Writing.{default_writer, fields_written, has_written, row_text, text_written, writer_setup}
use Rattle.csv.specs.declared.writer.Writer.{Writer}
use Rattle.words.specs.Columns.{kinds_of, names_of}
use Rattle.words.specs.Texts.{unpacked}
use Rattle.words.specs.declared.column.Column.{Column}
use Rattle.words.specs.declared.column.Kind.{Kind}
use Rattle.words.specs.declared.column.Kind.TheVariants.{Num, Text, Flag}
use Rattle.tables.specs.Content.{Content}

-- the field that a word is written as in a column of this kind
abbrev pub written : Kind → ℕ → List ℕ
written Num word = decimal word
written Text word = unpacked word
written Flag word = decimal word

-- the fields of a row in columns of these kinds
abbrev pub fields_written_of : List Kind → List ℕ → List (List ℕ)
fields_written_of kinds [] = []
fields_written_of [] (word ∷ words) = []
fields_written_of (kind ∷ kinds) (word ∷ words) = written kind word ∷ fields_written_of kinds words

-- the record of a row
abbrev pub record_text : List Column → List ℕ → List ℕ
record_text columns row = row_text default_writer (fields_written_of (kinds_of columns) row)

-- the record of the names, and then of each row
abbrev pub rows_text : List Column → List (List ℕ) → List ℕ
rows_text columns rows = row_text default_writer (names_of columns) ++ flat_map (record_text columns) rows

-- the text of a table's answer
abbrev pub answer_of : Content → List ℕ
answer_of table = rows_text table.columns (sorted table.rows)

-- tables with the same columns and the same bag of rows have the same answer
abbrev pub AnswersOfEqualBags : Type 0
AnswersOfEqualBags = (a b : Content) → a.columns ≡ b.columns → SameBag a.rows b.rows → answer_of a ≡ answer_of b

-- a writer that stands behind whole records, whose text is this
pub record HasText {W : Type 0} (contents : W → Option (List ℕ)) (writer : Writer W) (text : List ℕ) : Type 0 where
  pub holds : text_written contents writer ≡ Some text
  pub fields : fields_written writer ≡ 0
  pub clean : has_written writer ≡ false
  pub setup : writer_setup writer ≡ default_writer
