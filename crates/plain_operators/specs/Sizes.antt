-- How wide, how many and how large the rows of an operator are.
use Rattle.std.specs.Prelude.{◌≡◌, ℕ, ◌+◌, ◌*◌, ◌^◌, ◌<◌, ◌≤◌, Bool, List, length}
use Rattle.std.specs.List.{All}
use Rattle.plain_operators.specs.Columns.{other_columns}
use Rattle.plain_operators.specs.declared.aggregate.Aggregate.{Aggregate}
use Rattle.plain_operators.specs.declared.item.Item.{Item}
use Rattle.plain_operators.specs.declared.item.Item.TheVariants.{Plain, Computed}
use Rattle.plain_operators.specs.declared.item.Operand.{Operand}
use Rattle.plain_operators.specs.declared.item.Operand.TheVariants.{Column, Constant}
use Rattle.plain_operators.specs.Items.{item_word}
use Rattle.plain_operators.specs.Operators.{distinct_rows, grouped_rows, joined_rows, kept_rows, left_keys, right_keys, rows_of_items, whole_table_rows}

-- each row has so many words
abbrev pub AllWide : ℕ → List (List ℕ) → Type 0
AllWide width rows = All (λ row. length row ≡ width) rows

-- each word of a row is below 2^64
abbrev pub IsOfWords : List ℕ → Type 0
IsOfWords row = All (λ word. word < 2 ^ 64) row

-- each constant of an item is a word
abbrev pub HasWordConstant : Operand → Type 0
HasWordConstant (Column column) = Unit {0}
HasWordConstant (Constant word) = word < 2 ^ 64

abbrev pub HasWordConstants : Item → Type 0
HasWordConstants (Plain operand) = HasWordConstant operand
HasWordConstants (Computed left operation right) = HasWordConstant left × HasWordConstant right

-- items give words for rows of words
abbrev pub ItemsGiveWords : Type 0
ItemsGiveWords = (item : Item) (row : List ℕ) → HasWordConstants item → IsOfWords row → item_word item row < 2 ^ 64

-- the words of a joined row, from the widths of the left and the right
abbrev pub joined_width : List (ℕ × ℕ) → ℕ → ℕ → ℕ
joined_width keys left right = length keys + (length (other_columns (left_keys keys) left) + length (other_columns (right_keys keys) right))

-- the rows of each operator have the width of its columns
pub record OperatorsKeepWidths : Type 0 where
  pub kept : (tests : List (List ℕ → Bool)) (width : ℕ) (rows : List (List ℕ)) → AllWide width rows → AllWide width (kept_rows tests rows)
  pub items : (items : List (List ℕ → ℕ)) (rows : List (List ℕ)) → AllWide (length items) (rows_of_items items rows)
  pub joined : (keys : List (ℕ × ℕ)) (left right : ℕ) (lefts rights : List (List ℕ)) → AllWide left lefts → AllWide right rights → AllWide (joined_width keys left right) (joined_rows keys lefts rights)
  pub distinct : (width : ℕ) (rows : List (List ℕ)) → AllWide width rows → AllWide width (distinct_rows rows)
  pub grouped : (keys : List ℕ) (aggregates : List Aggregate) (rows : List (List ℕ)) → AllWide (length keys + length aggregates) (grouped_rows keys aggregates rows)
  pub whole : (aggregates : List Aggregate) (rows : List (List ℕ)) → AllWide (length aggregates) (whole_table_rows aggregates rows)

-- each operator gives words for words; a count is one where there are fewer than 2^64 rows
pub record OperatorsKeepWords : Type 0 where
  pub kept : (tests : List (List ℕ → Bool)) (rows : List (List ℕ)) → All IsOfWords rows → All IsOfWords (kept_rows tests rows)
  pub items : (items : List (List ℕ → ℕ)) (rows : List (List ℕ)) → ((row : List ℕ) → IsOfWords row → All (λ item. item row < 2 ^ 64) items) → All IsOfWords rows → All IsOfWords (rows_of_items items rows)
  pub joined : (keys : List (ℕ × ℕ)) (lefts rights : List (List ℕ)) → All IsOfWords lefts → All IsOfWords rights → All IsOfWords (joined_rows keys lefts rights)
  pub distinct : (rows : List (List ℕ)) → All IsOfWords rows → All IsOfWords (distinct_rows rows)
  pub grouped : (keys : List ℕ) (aggregates : List Aggregate) (rows : List (List ℕ)) → length rows < 2 ^ 64 → All IsOfWords rows → All IsOfWords (grouped_rows keys aggregates rows)
  pub whole : (aggregates : List Aggregate) (rows : List (List ℕ)) → length rows < 2 ^ 64 → All IsOfWords rows → All IsOfWords (whole_table_rows aggregates rows)

-- how many rows each operator gives at most
pub record OperatorCounts : Type 0 where
  pub kept : (tests : List (List ℕ → Bool)) (rows : List (List ℕ)) → length (kept_rows tests rows) ≤ length rows
  pub items : (items : List (List ℕ → ℕ)) (rows : List (List ℕ)) → length (rows_of_items items rows) ≡ length rows
  pub joined : (keys : List (ℕ × ℕ)) (lefts rights : List (List ℕ)) → length (joined_rows keys lefts rights) ≤ length lefts * length rights
  pub distinct : (rows : List (List ℕ)) → length (distinct_rows rows) ≤ length rows
  pub grouped : (keys : List ℕ) (aggregates : List Aggregate) (rows : List (List ℕ)) → length (grouped_rows keys aggregates rows) ≤ length rows
  pub whole : (aggregates : List Aggregate) (rows : List (List ℕ)) → length (whole_table_rows aggregates rows) ≤ 1
