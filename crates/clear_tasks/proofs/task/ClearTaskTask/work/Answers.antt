use Rattle.std.proofs.Common.{◌≡◌, ℕ, ◌+◌, List, length, refl, ◌∙◌}
use Rattle.std.proofs.lemmas.Result.{IfOk-weaker}
use borrow.Enum.Total.{values_d}
use Rattle.step_lists.specs.Shapes.{IsInput}
use Rattle.clear_tasks.specs.contracts.task.ClearTask.{enum}
use Rattle.clear_tasks.specs.declared.task.ClearTask.{ClearTask}
use Rattle.clear_tasks.specs.declared.task.ClearTask.TheVariants as tasks
use Rattle.clear_tasks.specs.ClearTask.{accepts, answer}
use Rattle.clear_tasks.specs.Sorted.{sorted_answer}
use Rattle.clear_tasks.specs.SortedLaws.{sorted_input}
use Rattle.clear_tasks.proofs.task.ClearTaskTask.work.Goals as goal

input : (task : ClearTask) (xs : List (List ℕ)) → IsInput (accepts task) xs → length xs ≡ (values_d enum 0 (0, tt {0}) task).0 + 1
input (tasks.Sorted columns) xs h = sorted_input columns xs h

pub sorted-requires : goal.sorted-requires
sorted-requires c = input c.args.self.now _ c.requires

answered : (task : ClearTask) (xs : List (List ℕ)) → sorted_answer (values_d enum 0 (0, tt {0}) task).0 xs ≡ answer task xs
answered (tasks.Sorted columns) xs = refl

pub returns : goal.returns
returns c = IfOk-weaker c.sorted.result _ _ (λ gives e. e ∙ answered c.args.self.now _) c.sorted.ensures
