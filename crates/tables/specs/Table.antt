-- How the cells of a table in memory are its rows.
use Rattle.std.specs.Prelude.{◌≡◌, ℕ, zero, suc, ◌*◌, ◌<◌, ◌^◌, List, [], ◌∷◌, take, drop, length, All}
use Rattle.tables.specs.Content.{Content}
use Rattle.tables.specs.declared.table.Table.TheInside.{Inside}

-- so many rows of this width, cut from cells that stand row by row
unfoldable pub rows_cut : ℕ → ℕ → List ℕ → List (List ℕ)
rows_cut width zero cells = []
rows_cut width (suc count) cells = take width cells ∷ rows_cut width count (drop width cells)

-- the columns and the rows of the cells
abbrev pub content_of : Inside → Content
content_of table =
    record { columns = table.columns.items; rows = rows_cut (length table.columns.items) table.count table.cells.items }

-- there is one cell for each row and column, and each cell is a word
pub record IsFilled (table : Inside) : Type 0 where
  pub full : length table.cells.items ≡ table.count * length table.columns.items
  pub words : All (λ word. word < 2 ^ 64) table.cells.items
