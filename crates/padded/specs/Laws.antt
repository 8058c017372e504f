-- What holds of every padded table, each law as one statement.
use Rattle.std.specs.Prelude.{◌≡◌, ℕ, ◌*◌, ◌<◌, ◌≤◌, Bool, false, ◌&&◌, if◌then◌else◌, List, length, map, slice_index}
use Rattle.std.specs.List.{All, filter, flat_map}
use Rattle.bags.specs.Bag.{SameBag}
use Rattle.bags.specs.Sorted.{sorted}
use Rattle.lanes.specs.Lanes.{picked}
use Rattle.lanes.specs.Table.{table_place}
use Rattle.lanes.specs.Word.{AreWords}
use Rattle.tapes.specs.Order.{IsOrder, applied}
use Rattle.tapes.specs.RowLaws.{columns_applied, row_across}
use Rattle.padded.specs.Table.{AreBits, IsTable, Table, appended, columns_at, is_live, opened_rows, pad, padded_columns, padded_valid, rows_in, table_rows, shown_rows, told, zeroed_columns}

-- each row has so many words
abbrev pub AreWide : ℕ → List (List ℕ) → Type 0
AreWide width rows = All (λ row. length row ≡ width) rows

-- valid rows are at most the places, have a word for each column, and are of words where the columns are
pub record RowsFitTable : Type 0 where
  pub count : (columns : List (List ℕ)) (valid : List ℕ) → length (rows_in columns valid) ≤ length valid
  pub wide : (columns : List (List ℕ)) (valid : List ℕ) → AreWide (length columns) (rows_in columns valid)
  pub words : (columns : List (List ℕ)) (valid : List ℕ) → All AreWords columns → All AreWords (rows_in columns valid)

-- padded rows are the rows again, where there is room for them
abbrev pub RowsOfPadded : Type 0
RowsOfPadded = (width count : ℕ) (rows : List (List ℕ)) → AreWide width rows → length rows ≤ count → rows_in (padded_columns width count rows) (padded_valid count rows) ≡ rows

-- they are so many columns of so many words, their valid words are bits, and all are words where those of the rows are
pub record PaddedFits : Type 0 where
  pub width : (width count : ℕ) (rows : List (List ℕ)) → length (padded_columns width count rows) ≡ width
  pub lengths : (width count : ℕ) (rows : List (List ℕ)) → All (λ column. length column ≡ count) (pad width count rows)
  pub bits : (count : ℕ) (rows : List (List ℕ)) → AreBits (padded_valid count rows)
  pub words : (width count : ℕ) (rows : List (List ℕ)) → All AreWords rows → All AreWords (pad width count rows)

-- words gathered at these places in every column: the rows at those of the places at which a row stands
abbrev pub RowsOfGathered : Type 0
RowsOfGathered = (places : List ℕ) (columns : List (List ℕ)) (valid : List ℕ) → rows_in (columns_applied places columns) (picked places valid) ≡ map (row_across columns) (filter (is_live valid) places)

-- an order applied to every column and to the valid words keeps the bag of rows
abbrev pub RowsOfOrdered : Type 0
RowsOfOrdered = (o : List ℕ) (columns : List (List ℕ)) (valid : List ℕ) → IsOrder o → length o ≡ length valid → SameBag (rows_in (columns_applied o columns) (applied o valid)) (rows_in columns valid)

-- other columns, whose row at each place where a row stands is a function of the row there
abbrev pub RowsOfMapped : Type 0
RowsOfMapped = (f : List ℕ → List ℕ) (columns others : List (List ℕ)) (valid : List ℕ) → ((k : ℕ) → k < length valid → slice_index valid k ≡ 1 → row_across others k ≡ f (row_across columns k))
    → rows_in others valid ≡ map f (rows_in columns valid)

-- a table cut to some columns
abbrev pub RowsOfCut : Type 0
RowsOfCut = (numbers : List ℕ) (columns : List (List ℕ)) (valid : List ℕ) → rows_in (columns_at numbers columns) valid ≡ map (picked numbers) (rows_in columns valid)

-- other valid words, which leave in the rows that pass a test
abbrev pub RowsOfKept : Type 0
RowsOfKept = (test : List ℕ → Bool) (columns : List (List ℕ)) (valid kept : List ℕ) → length kept ≡ length valid
    → ((k : ℕ) → k < length valid → is_live kept k ≡ (if is_live valid k then test (row_across columns k) else false)) → rows_in columns kept ≡ filter test (rows_in columns valid)

-- tables of one width one behind the other
abbrev pub RowsOfAppended : Type 0
RowsOfAppended = (width : ℕ) (tables : List Table) → All (IsTable width) tables → table_rows (appended width tables) ≡ flat_map table_rows tables

-- a table with a place for each pair of a left and a right row, where the row of a pair is made of both
pub record IsTableOfPairs (matches : List ℕ → List ℕ → Bool) (joined : List ℕ → List ℕ → List ℕ) (lefts rights table : Table) : Type 0 where
  pub count : length table.valid ≡ length lefts.valid * length rights.valid
  pub live : (i j : ℕ) → i < length lefts.valid → j < length rights.valid → is_live table.valid (table_place (length rights.valid) i j)
      ≡ (is_live lefts.valid i && (is_live rights.valid j && matches (row_across lefts.columns i) (row_across rights.columns j)))
  pub row : (i j : ℕ) → i < length lefts.valid → j < length rights.valid → row_across table.columns (table_place (length rights.valid) i j) ≡ joined (row_across lefts.columns i) (row_across rights.columns j)

-- its rows: for each left row, those of it with each right row that matches it
abbrev pub RowsOfPairs : Type 0
RowsOfPairs = (matches : List ℕ → List ℕ → Bool) (joined : List ℕ → List ℕ → List ℕ) (lefts rights table : Table) → IsTableOfPairs matches joined lefts rights table
    → table_rows table ≡ flat_map (λ left. map (joined left) (filter (matches left) (table_rows rights))) (table_rows lefts)

-- zeroed columns have the same rows; and opened with valid words of 0 and 1 they show these with a 1 behind each, and rows of zeros, in some order
pub record RowsOfZeroed : Type 0 where
  pub same : (columns : List (List ℕ)) (valid : List ℕ) → All (λ column. length column ≡ length valid) columns → rows_in (zeroed_columns valid columns) valid ≡ rows_in columns valid
  pub opened : (columns : List (List ℕ)) (valid : List ℕ) → AreBits valid → All (λ column. length column ≡ length valid) columns
      → SameBag (shown_rows (zeroed_columns valid columns) valid) (opened_rows (length columns) (length valid) (rows_in columns valid))

-- the same bag of rows is opened as the same bag
abbrev pub OpenedOfBags : Type 0
OpenedOfBags = (width count : ℕ) (xs ys : List (List ℕ)) → SameBag xs ys → SameBag (opened_rows width count xs) (opened_rows width count ys)

-- the same bag of rows is told by the same columns, and what is told has that bag
pub record ToldOfBags : Type 0 where
  pub same : (width count : ℕ) (xs ys : List (List ℕ)) → SameBag xs ys → told width count xs ≡ told width count ys
  pub rows : (width count : ℕ) (rows : List (List ℕ)) → AreWide width rows → length rows ≤ count → SameBag (rows_in (padded_columns width count (sorted rows)) (padded_valid count (sorted rows))) rows
