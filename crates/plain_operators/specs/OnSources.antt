-- An operator and its sources: its rows, its width and the most rows that it has, from those of the sources as a list.
use Rattle.std.specs.Prelude.{◌≡◌, ℕ, ◌+◌, ◌*◌, ◌≤◌, List, [], ◌∷◌, length, map, slice_index, slice_index_or, sum}
use Rattle.std.specs.List.{All, AllZip, flat_map}
use Rattle.bags.specs.Bag.{SameBag}
use Rattle.plain_operators.specs.declared.aggregate.Aggregate.{Aggregate}
use Rattle.plain_operators.specs.declared.item.Item.{Item}
use Rattle.plain_operators.specs.declared.item.Test.{Test}
use Rattle.plain_operators.specs.Items.{holds_of, item_word}
use Rattle.plain_operators.specs.Operators.{distinct_rows, grouped_rows, joined_rows, kept_rows, rows_of_items, whole_table_rows}
use Rattle.plain_operators.specs.Sizes.{AllWide, joined_width}

-- an operator of a query without its sources: no name, owner, trust, place or bound
pub data Operator : Type 0 where
  Filter : List Test → Operator
  Select : List Item → Operator
  Concat : Operator
  Join : List (ℕ × ℕ) → Operator
  Group : List ℕ → List Aggregate → Operator
  Distinct : Operator

-- the rows of a source, none where there is no such source
abbrev pub source_rows : List (List (List ℕ)) → ℕ → List (List ℕ)
source_rows sources k = slice_index_or sources k []

-- group: without keys one row of the whole table
abbrev pub group_of_rows : List ℕ → List Aggregate → List (List ℕ) → List (List ℕ)
group_of_rows [] aggregates rows = whole_table_rows aggregates rows
group_of_rows (key ∷ keys) aggregates rows = grouped_rows (key ∷ keys) aggregates rows

-- the rows of an operator, from those of its sources in their order
abbrev pub operator_rows : Operator → List (List (List ℕ)) → List (List ℕ)
operator_rows (Filter tests) sources = kept_rows (map holds_of tests) (source_rows sources 0)
operator_rows (Select items) sources = rows_of_items (map item_word items) (source_rows sources 0)
operator_rows Concat sources = flat_map (λ rows. rows) sources
operator_rows (Join keys) sources = joined_rows keys (source_rows sources 0) (source_rows sources 1)
operator_rows (Group keys aggregates) sources = group_of_rows keys aggregates (source_rows sources 0)
operator_rows Distinct sources = distinct_rows (source_rows sources 0)

-- how many columns it has, from those of its sources
abbrev pub operator_width : Operator → List ℕ → ℕ
operator_width (Filter tests) widths = slice_index widths 0
operator_width (Select items) widths = length items
operator_width Concat widths = slice_index widths 0
operator_width (Join keys) widths = joined_width keys (slice_index widths 0) (slice_index widths 1)
operator_width (Group keys aggregates) widths = length keys + length aggregates
operator_width Distinct widths = slice_index widths 0

-- how many rows a group has at most
abbrev pub group_size : List ℕ → ℕ → ℕ
group_size [] rows = 1
group_size (key ∷ keys) rows = rows

-- how many rows it has at most, from those of its sources
abbrev pub operator_size : Operator → List ℕ → ℕ
operator_size (Filter tests) sizes = slice_index sizes 0
operator_size (Select items) sizes = slice_index sizes 0
operator_size Concat sizes = sum sizes
operator_size (Join keys) sizes = slice_index sizes 0 * slice_index sizes 1
operator_size (Group keys aggregates) sizes = group_size keys (slice_index sizes 0)
operator_size Distinct sizes = slice_index sizes 0

-- the same bags of the sources give the same bag
abbrev pub OperatorKeepsBags : Type 0
OperatorKeepsBags = (operator : Operator) (xs ys : List (List (List ℕ))) → AllZip SameBag xs ys → SameBag (operator_rows operator xs) (operator_rows operator ys)

-- the sources of a concat are of one width
abbrev pub AreAlike : Operator → List ℕ → Type 0
AreAlike Concat widths = All (λ width. width ≡ slice_index widths 0) widths
AreAlike (Filter tests) widths = Unit {0}
AreAlike (Select items) widths = Unit {0}
AreAlike (Join keys) widths = Unit {0}
AreAlike (Group keys aggregates) widths = Unit {0}
AreAlike Distinct widths = Unit {0}

-- its rows have its width, over sources of theirs
abbrev pub OperatorKeepsWidth : Type 0
OperatorKeepsWidth = (operator : Operator) (widths : List ℕ) (sources : List (List (List ℕ))) → AreAlike operator widths → AllZip AllWide widths sources
    → AllWide (operator_width operator widths) (operator_rows operator sources)

-- it has no more rows than its size says, and its size rises with those of its sources
pub record OperatorKeepsSize : Type 0 where
  pub most : (operator : Operator) (sources : List (List (List ℕ))) → length (operator_rows operator sources) ≤ operator_size operator (map (λ rows. length rows) sources)
  pub rises : (operator : Operator) (sizes others : List ℕ) → AllZip (λ a b. a ≤ b) sizes others → operator_size operator sizes ≤ operator_size operator others
