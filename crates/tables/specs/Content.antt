-- What contracts see of a table.
use Rattle.std.specs.Prelude.{◌≡◌, ℕ, ◌<◌, ◌^◌, List, [], ◌∷◌, ◌++◌, length, All}
use Rattle.words.specs.declared.column.Column.{Column}

-- columns, and rows of words
pub record Content : Type 0 where
  pub columns : List Column
  pub rows : List (List ℕ)

-- one more row behind the others
abbrev pub with_row : Content → List ℕ → Content
with_row table row = record { columns = table.columns; rows = table.rows ++ row ∷ [] }

-- each row is as long as the columns
abbrev pub IsRectangular : Content → Type 0
IsRectangular table = All (λ row. length row ≡ length table.columns) table.rows

-- each row is a list of words, numbers below 2^64
abbrev pub HasWords : Content → Type 0
HasWords table = All (λ row. All (λ word. word < 2 ^ 64) row) table.rows
