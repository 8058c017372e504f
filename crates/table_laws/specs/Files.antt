-- When a file's bytes are a table: record by record, and field by field.
use Rattle.std.specs.Prelude.{◌≡◌, ℕ, ◌≤◌, ◌↔◌, List, ◌∷◌, Ok, length}
use Rattle.std.specs.List.{AllZip, zip}
use Rattle.csv.specs.Reading.{default_config, records, strip_bom}
use Rattle.words.specs.Columns.{kinds_of, names_of, word_of}
use Rattle.words.specs.declared.column.Column.{Column}
use Rattle.words.specs.declared.column.Kind.{Kind}
use Rattle.tables.specs.Content.{Content}
use Rattle.tables.specs.File.{table_in}

-- the records of a file's bytes, behind a byte order mark if there is one
abbrev pub records_of : List ℕ → List (List (List ℕ))
records_of bytes = records default_config (strip_bom bytes)

-- a field, with the kind of its column, writes this word
abbrev pub WritesWord : Kind × List ℕ → ℕ → Type 0
WritesWord placed word = word_of placed.0 placed.1 ≡ Ok word

-- a record writes this row: one field for each column, and in each the row's word there
pub record WritesRow (kinds : List Kind) (fields : List (List ℕ)) (row : List ℕ) : Type 0 where
  pub wide : length fields ≡ length kinds
  pub words : AllZip WritesWord (zip kinds fields) row

-- a file's records are the names of the columns and then these
abbrev pub IsHeaded : List Column → List ℕ → List (List (List ℕ)) → Type 0
IsHeaded columns bytes behind = records_of bytes ≡ names_of columns ∷ behind

-- the table of a file: of the declared columns, with a row for each record behind the header, and no more than declared
pub record IsTableOf (columns : List Column) (declared : ℕ) (bytes : List ℕ) (table : Content) : Type 0 where
  pub same : table.columns ≡ columns
  pub few : length table.rows ≤ declared
  pub behind : List (List (List ℕ))
  pub headed : IsHeaded columns bytes behind
  pub rows : AllZip (WritesRow (kinds_of columns)) behind table.rows

-- exactly such a table is read
abbrev pub FilesAreTables : Type 0
FilesAreTables = (columns : List Column) (declared : ℕ) (bytes : List ℕ) (table : Content) → (table_in columns declared bytes ≡ Ok table) ↔ IsTableOf columns declared bytes table
