-- The table that a file's bytes are under a declaration, or why they are none.
use Rattle.std.specs.Prelude.{◌≡◌, ◌≢◌, ℕ, ◌+◌, ◌≤◌, ◌==◌, nat_lt, All, Bool, if◌then◌else◌, List, [], ◌∷◌, Option, Some, None, Result, Ok, Err, length}
use Rattle.std.specs.Cmp.Lexicographic.{pointwise}
use Rattle.std.specs.Str.{bytes_eq}
use Rattle.csv.specs.Reading.{default_config, records, strip_bom}
use Rattle.words.specs.Columns.{kinds_of, names_of, word_of}
use Rattle.words.specs.declared.column.Column.{Column}
use Rattle.words.specs.declared.column.Kind.{Kind}
use Rattle.words.specs.declared.column.Kind.TheVariants.{Flag}
use Rattle.words.specs.declared.num.ValueFault.{ValueFault}
use Rattle.tables.specs.Outcome.{and_then, map_ok}
use Rattle.tables.specs.Content.{Content, HasWords, IsRectangular}
use Rattle.tables.specs.declared.fault.TableFault.{TableFault}
use Rattle.tables.specs.declared.fault.TableFault.TheVariants.{Header, Rows, Fields, Value}

-- what is said of a first record that isn't the names of the columns
abbrev pub header_fault : TableFault
header_fault = Header

-- of more records behind it than were declared
abbrev pub rows_fault : ℕ → ℕ → TableFault
rows_fault declared found = Rows declared found

-- of a record, by its number from 1, that has more or fewer fields than there are columns
abbrev pub fields_fault : ℕ → TableFault
fields_fault line = Fields line

-- and of a field that is no value of its column's kind
abbrev pub value_fault : ℕ → ℕ → ValueFault → TableFault
value_fault line column fault = Value line column fault

-- a record is the columns' names, in order
abbrev pub is_header : List (List ℕ) → List (List ℕ) → Bool
is_header names fields = pointwise bytes_eq fields names

-- a field's word, or the fault at its place
abbrev pub at_place : ℕ → ℕ → Result ℕ ValueFault → Result ℕ TableFault
at_place line column (Ok word) = Ok word
at_place line column (Err fault) = Err (value_fault line column fault)

-- the same of a field that may be missing
abbrev pub field_word : ℕ → ℕ → Kind → Option (List ℕ) → Result ℕ TableFault
field_word line column kind None = Err (fields_fault line)
field_word line column kind (Some field) = at_place line column (word_of kind field)

-- the words of a record's fields from a column on, or the first fault
abbrev pub words_of : ℕ → ℕ → List Kind → List (List ℕ) → Result (List ℕ) TableFault
words_of line column [] fields = Ok []
words_of line column (kind ∷ kinds) [] = Err (fields_fault line)
words_of line column (kind ∷ kinds) (field ∷ fields) =
    and_then (at_place line column (word_of kind field)) (λ word. map_ok (λ words. word ∷ words) (words_of line (column + 1) kinds fields))

-- the row of a record
abbrev pub row_of : ℕ → List Kind → List (List ℕ) → Result (List ℕ) TableFault
row_of line kinds fields = if length fields == length kinds then words_of line 0 kinds fields else Err (fields_fault line)

-- the rows of records, the first of which has this number
abbrev pub record_rows : ℕ → List Kind → List (List (List ℕ)) → Result (List (List ℕ)) TableFault
record_rows line kinds [] = Ok []
record_rows line kinds (first ∷ rest) =
    and_then (row_of line kinds first) (λ row. map_ok (λ rows. row ∷ rows) (record_rows (line + 1) kinds rest))

-- so many records are no more than were declared
abbrev pub within : ℕ → ℕ → Result (Unit {0}) TableFault
within declared found = if nat_lt declared found then Err (rows_fault declared found) else Ok tt

-- the table of the records behind a header: their number counts before what they hold
abbrev pub table_under : List Column → ℕ → List (List (List ℕ)) → Result Content TableFault
table_under columns declared rest =
    and_then (within declared (length rest)) (λ _. map_ok (λ rows. record { columns = columns; rows = rows }) (record_rows 2 (kinds_of columns) rest))

-- the table of a file's records, the first of which is to be the header
abbrev pub table_of : List Column → ℕ → List (List (List ℕ)) → Result Content TableFault
table_of columns declared [] = Err header_fault
table_of columns declared (header ∷ rest) =
    if is_header (names_of columns) header then table_under columns declared rest else Err header_fault

-- the table of a file's bytes: of the records that csv reads by its defaults behind a byte order mark, if there is one
abbrev pub table_in : List Column → ℕ → List ℕ → Result Content TableFault
table_in columns declared bytes = table_of columns declared (records default_config (strip_bom bytes))

-- no column is one of flags, which files don't have
abbrev pub HasNoFlag : List Column → Type 0
HasNoFlag columns = All (λ column. column.kind ≢ Flag) columns

-- a table of these columns and of at most so many rows, each of which is as long as the columns and of words
pub record FitsDeclaration (columns : List Column) (declared : ℕ) (table : Content) : Type 0 where
  pub same : table.columns ≡ columns
  pub few : length table.rows ≤ declared
  pub wide : IsRectangular table
  pub words : HasWords table

-- the table of a file's bytes is one of its declaration
abbrev pub ReadTablesFit : Type 0
ReadTablesFit = (columns : List Column) (declared : ℕ) (bytes : List ℕ) (table : Content) → table_in columns declared bytes ≡ Ok table → FitsDeclaration columns declared table
