-- The task that puts the valid rows of a padded table in order.
use Rattle.std.specs.Prelude.{ℕ, Bool, ◌&&◌, List, length, take}
use Rattle.padded.specs.Table.{column_at, rows_in, told}
use Rattle.step_lists.specs.declared.step.Shape.{Shape}
use Rattle.clear_tasks.specs.TableShapes.{is_table, rows_of_shapes}

-- a padded table of so many columns becomes one of as many places
abbrev pub sorted_accepts : ℕ → List Shape → List Shape → Bool
sorted_accepts columns takes gives = is_table columns (rows_of_shapes takes) takes && is_table columns (rows_of_shapes takes) gives

-- its valid rows in the order of rows, and zeros behind
abbrev pub sorted_answer : ℕ → List (List ℕ) → List (List ℕ)
sorted_answer columns xs = told columns (length (column_at xs columns)) (rows_in (take columns xs) (column_at xs columns))
