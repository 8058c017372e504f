-- Orders applied to rows, and to columns of words.
use Rattle.std.specs.Prelude.{◌≡◌, ◌<◌, ℕ, List, length, map, slice_index}
use Rattle.std.specs.List.{range_with_len}
use Rattle.bags.specs.Bag.{SameBag}
use Rattle.tapes.specs.Align.{row_at, rows_applied}
use Rattle.tapes.specs.Order.{IsOrder, applied, composed, identity_of, inverse_of}

-- rows under an order: the row at each place, the same bag, one order after another one, the identity and the way back
pub record RowsOfOrders : Type 0 where
  pub row : (o : List ℕ) (rows : List (List ℕ)) (k : ℕ) → k < length o → row_at (rows_applied o rows) k ≡ row_at rows (slice_index o k)
  pub count : (o : List ℕ) (rows : List (List ℕ)) → length (rows_applied o rows) ≡ length o
  pub bag : (o : List ℕ) (rows : List (List ℕ)) → IsOrder o → length o ≡ length rows → SameBag (rows_applied o rows) rows
  pub composed : (a b : List ℕ) (rows : List (List ℕ)) → IsOrder b → length a ≡ length b → rows_applied (composed a b) rows ≡ rows_applied b (rows_applied a rows)
  pub identity : (rows : List (List ℕ)) → rows_applied (identity_of (length rows)) rows ≡ rows
  pub back : (o : List ℕ) (rows : List (List ℕ)) → IsOrder o → length o ≡ length rows → rows_applied (inverse_of o) (rows_applied o rows) ≡ rows
  pub forth : (o : List ℕ) (rows : List (List ℕ)) → IsOrder o → length o ≡ length rows → rows_applied o (rows_applied (inverse_of o) rows) ≡ rows

-- the words of all columns at a place
abbrev pub row_across : List (List ℕ) → ℕ → List ℕ
row_across columns k = map (λ column. slice_index column k) columns

-- the first rows of columns, so many
abbrev pub rows_across : ℕ → List (List ℕ) → List (List ℕ)
rows_across count columns = map (row_across columns) (range_with_len 0 count)

-- each column under an order
abbrev pub columns_applied : List ℕ → List (List ℕ) → List (List ℕ)
columns_applied o columns = map (applied o) columns

-- columns under an order have the rows of the columns under it
pub record RowsOfColumns : Type 0 where
  pub row : (o : List ℕ) (columns : List (List ℕ)) (k : ℕ) → k < length o → row_across (columns_applied o columns) k ≡ row_across columns (slice_index o k)
  pub rows : (o : List ℕ) (columns : List (List ℕ)) → IsOrder o → rows_across (length o) (columns_applied o columns) ≡ rows_applied o (rows_across (length o) columns)
  pub bag : (o : List ℕ) (columns : List (List ℕ)) → IsOrder o → SameBag (rows_across (length o) (columns_applied o columns)) (rows_across (length o) columns)
