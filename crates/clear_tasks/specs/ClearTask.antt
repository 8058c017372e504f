-- What each task takes and gives.
use Rattle.std.specs.Prelude.{ℕ, Bool, List}
use Rattle.step_lists.specs.declared.step.Shape.{Shape}
use Rattle.clear_tasks.specs.declared.task.ClearTask.{ClearTask}
use Rattle.clear_tasks.specs.declared.task.ClearTask.TheVariants as tasks
use Rattle.clear_tasks.specs.Sorted.{sorted_accepts, sorted_answer}

abbrev pub accepts : ClearTask → List Shape → List Shape → Bool
accepts (tasks.Sorted columns) takes gives = sorted_accepts columns takes gives

abbrev pub answer : ClearTask → List (List ℕ) → List (List ℕ)
answer (tasks.Sorted columns) xs = sorted_answer columns xs
