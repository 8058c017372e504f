-- Why a file's bytes are no table: the first fault, and that all before it is well.
use Rattle.std.specs.Prelude.{◌≡◌, ℕ, ◌+◌, ◌≤◌, ◌<◌, ◌≢◌, List, ◌∷◌, ◌++◌, Err, All, length}
use Rattle.std.specs.List.{zip}
use Rattle.words.specs.Columns.{kinds_of, word_of}
use Rattle.words.specs.declared.column.Column.{Column}
use Rattle.words.specs.declared.column.Kind.{Kind}
use Rattle.words.specs.declared.num.ValueFault.{ValueFault}
use Rattle.tables.specs.File.{table_in}
use Rattle.tables.specs.declared.fault.TableFault.{TableFault}
use Rattle.tables.specs.declared.fault.TableFault.TheVariants.{Header, Rows, Fields, Value, Memory}
use Rattle.table_laws.specs.Files.{IsHeaded, WritesRow, WritesWord}

-- this item stands at this place, counted from 0, and all before it pass
pub record IsFirst {A : Type 0} (Passes : A → Type 0) (items : List A) (place : ℕ) (item : A) : Type 0 where
  pub front : List A
  pub behind : List A
  pub split : items ≡ front ++ item ∷ behind
  pub here : place ≡ length front
  pub passed : All Passes front

-- a record that writes some row, and a field that writes some word
abbrev pub IsRow : List Kind → List (List ℕ) → Type 0
IsRow kinds fields = (row : List ℕ) × WritesRow kinds fields row

abbrev pub IsField : Kind × List ℕ → Type 0
IsField placed = (word : ℕ) × WritesWord placed word

-- a record with one field for each column, of which the one at this place is the first that writes no word, for this reason
pub record IsWrongAt (kinds : List Kind) (fields : List (List ℕ)) (column : ℕ) (fault : ValueFault) : Type 0 where
  pub wide : length fields ≡ length kinds
  pub placed : Kind × List ℕ
  pub first : IsFirst IsField (zip kinds fields) column placed
  pub wrong : word_of placed.0 placed.1 ≡ Err fault

-- the file has its header and no more records than declared, each before the one of this number, the header's being 1,
-- writes a row, and that one is faulty
pub record StopsAt (columns : List Column) (declared : ℕ) (bytes : List ℕ) (line : ℕ) (IsFaulty : List (List ℕ) → Type 0) : Type 0 where
  pub behind : List (List (List ℕ))
  pub headed : IsHeaded columns bytes behind
  pub few : length behind ≤ declared
  pub place : ℕ
  pub fields : List (List ℕ)
  pub first : IsFirst (IsRow (kinds_of columns)) behind place fields
  pub number : line ≡ place + 2
  pub faulty : IsFaulty fields

-- the file has its header, and so many records behind it, more than declared
pub record IsTooLong (columns : List Column) (declared : ℕ) (bytes : List ℕ) (found : ℕ) : Type 0 where
  pub behind : List (List (List ℕ))
  pub headed : IsHeaded columns bytes behind
  pub counted : found ≡ length behind
  pub over : declared < found

-- a fault of a file's bytes is there, and nothing is wrong before it
abbrev pub IsFirstFault : List Column → ℕ → List ℕ → TableFault → Type 0
IsFirstFault columns declared bytes Header = (behind : List (List (List ℕ))) → IsHeaded columns bytes behind → ⊥
IsFirstFault columns declared bytes (Rows most found) = (most ≡ declared) × IsTooLong columns declared bytes found
IsFirstFault columns declared bytes (Fields line) = StopsAt columns declared bytes line (λ fields. length fields ≢ length columns)
IsFirstFault columns declared bytes (Value line column fault) = StopsAt columns declared bytes line (λ fields. IsWrongAt (kinds_of columns) fields column fault)
IsFirstFault columns declared bytes Memory = ⊥

-- the fault that is told of a file is its first
abbrev pub FaultsAreFirst : Type 0
FaultsAreFirst = (columns : List Column) (declared : ℕ) (bytes : List ℕ) (fault : TableFault) → table_in columns declared bytes ≡ Err fault → IsFirstFault columns declared bytes fault
