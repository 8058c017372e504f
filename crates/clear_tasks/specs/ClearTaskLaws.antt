-- What each task gives has the shapes that go with what it takes.
use Rattle.std.specs.Prelude.{ℕ, List, IsTrue}
use Rattle.step_lists.specs.Shapes.{HaveShapes}
use Rattle.step_lists.specs.declared.step.Shape.{Shape}
use Rattle.clear_tasks.specs.declared.task.ClearTask.{ClearTask}
use Rattle.clear_tasks.specs.declared.task.ClearTask.TheVariants as tasks
use Rattle.clear_tasks.specs.ClearTask.{accepts, answer}
use Rattle.clear_tasks.specs.SortedLaws.{sorted_shaped}

pub shaped : (task : ClearTask) (takes gives : List Shape) (xs : List (List ℕ)) → IsTrue (accepts task takes gives) → HaveShapes takes xs → HaveShapes gives (answer task xs)
shaped (tasks.Sorted columns) takes gives xs a h = sorted_shaped columns takes gives xs a h
