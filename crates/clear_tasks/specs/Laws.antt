-- What holds of each kind of task, as one statement.
use Rattle.std.specs.Prelude.{◌≡◌, ℕ, ◌+◌, IsTrue, List, [], ◌∷◌, ◌++◌, length, replicate}
use Rattle.padded.specs.Table.{rows_in, told}
use Rattle.step_lists.specs.declared.step.Shape.TheVariants.{Words}
use Rattle.clear_tasks.specs.ClearTask.{accepts, answer}
use Rattle.clear_tasks.specs.declared.task.ClearTask.TheVariants.{Sorted}

-- `Sorted` takes any padded table, and gives one of as many columns and places
abbrev pub SortedTakesTables : Type 0
SortedTakesTables = (columns count : ℕ) → IsTrue (accepts (Sorted columns) (replicate (columns + 1) (Words count)) (replicate (columns + 1) (Words count)))

-- what it gives is the table that is told
abbrev pub SortedIsTold : Type 0
SortedIsTold =
    (columns : List (List ℕ)) (valid : List ℕ) → answer (Sorted (length columns)) (columns ++ valid ∷ []) ≡ told (length columns) (length valid) (rows_in columns valid)
