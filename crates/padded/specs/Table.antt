-- Padded tables: columns of words, and a valid word for each place, which is 1 where a row stands.
use Rattle.std.specs.Prelude.{◌≡◌, ℕ, ◌+◌, ◌-◌, ◌≤◌, ◌==◌, Bool, if◌then◌else◌, nat_lt, List, [], ◌∷◌, ◌++◌, length, map, replicate, slice_index, slice_index_or}
use Rattle.std.specs.List.{All, filter, flat_map, range_with_len}
use Rattle.bags.specs.Sorted.{sorted}
use Rattle.lanes.specs.Lanes.{lanewise}
use Rattle.tapes.specs.Align.{row_at}
use Rattle.tapes.specs.RowLaws.{row_across, rows_across}

-- each word is 0 or 1
pub record AreBits (words : List ℕ) : Type 0 where
  pub each : (k : ℕ) → slice_index words k ≤ 1

-- whether a row stands at a place: its valid word is 1
abbrev pub is_live : List ℕ → ℕ → Bool
is_live valid place = slice_index valid place == 1

-- the places at which a row stands, in order
abbrev pub live : List ℕ → List ℕ
live valid = filter (is_live valid) (range_with_len 0 (length valid))

-- the valid rows of a padded table, in order
abbrev pub rows_in : List (List ℕ) → List ℕ → List (List ℕ)
rows_in columns valid = map (row_across columns) (live valid)

-- the column of this number, empty where there is none
abbrev pub column_at : List (List ℕ) → ℕ → List ℕ
column_at columns column = slice_index_or columns column []

-- columns of these numbers, in this order
abbrev pub columns_at : List ℕ → List (List ℕ) → List (List ℕ)
columns_at numbers columns = map (column_at columns) numbers

-- one column of rows, and 0 behind it up to so many words
abbrev pub padded_column : ℕ → List (List ℕ) → ℕ → List ℕ
padded_column count rows column = map (λ place. slice_index (row_at rows place) column) (range_with_len 0 count)

-- the columns of rows of this width, padded to so many places
abbrev pub padded_columns : ℕ → ℕ → List (List ℕ) → List (List ℕ)
padded_columns width count rows = map (padded_column count rows) (range_with_len 0 width)

-- the valid words of so many rows: 1 for each, and 0 behind
abbrev pub valid_up_to : ℕ → ℕ → List ℕ
valid_up_to rows count = map (λ place. if nat_lt place rows then 1 else 0) (range_with_len 0 count)

abbrev pub padded_valid : ℕ → List (List ℕ) → List ℕ
padded_valid count rows = valid_up_to (length rows) count

-- the columns and behind them the valid words
abbrev pub pad : ℕ → ℕ → List (List ℕ) → List (List ℕ)
pad width count rows = padded_columns width count rows ++ padded_valid count rows ∷ []

-- a word where the row is valid, and else 0
abbrev pub word_if_valid : ℕ → ℕ → ℕ
word_if_valid flag word = if flag == 1 then word else 0

-- columns with zeros at each place without a row
abbrev pub zeroed_columns : List ℕ → List (List ℕ) → List (List ℕ)
zeroed_columns valid columns = map (λ column. lanewise word_if_valid valid column) columns

-- what opening columns with their valid words shows: the row at each place, its valid word behind it
abbrev pub shown_rows : List (List ℕ) → List ℕ → List (List ℕ)
shown_rows columns valid = rows_across (length valid) (columns ++ valid ∷ [])

-- rows with a 1 behind each, and then rows of zeros, up to so many rows
abbrev pub opened_rows : ℕ → ℕ → List (List ℕ) → List (List ℕ)
opened_rows width count rows = map (λ row. row ++ 1 ∷ []) rows ++ replicate (count - length rows) (replicate (width + 1) 0)

-- what a party tells of rows: sorted, and padded to so many places
abbrev pub told : ℕ → ℕ → List (List ℕ) → List (List ℕ)
told width count rows = pad width count (sorted rows)

-- a padded table: columns of words, and the valid words
pub record Table : Type 0 where
  pub columns : List (List ℕ)
  pub valid : List ℕ

-- its valid rows
abbrev pub table_rows : Table → List (List ℕ)
table_rows table = rows_in table.columns table.valid

-- so many columns, each with as many words as there are valid words
pub record IsTable (width : ℕ) (table : Table) : Type 0 where
  pub wide : length table.columns ≡ width
  pub lengths : All (λ column. length column ≡ length table.valid) table.columns

-- tables one behind the other: each column behind that of the tables before, and the valid words likewise
abbrev pub appended_column : List Table → ℕ → List ℕ
appended_column tables column = flat_map (λ table. column_at table.columns column) tables

abbrev pub appended : ℕ → List Table → Table
appended width tables = record {
  columns = map (appended_column tables) (range_with_len 0 width);
  valid = flat_map (λ table. table.valid) tables;
}
