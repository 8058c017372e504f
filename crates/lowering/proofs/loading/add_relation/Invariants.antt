use Rattle.std.proofs.Common.{◌≡◌, ◌++◌, map}
use Rattle.step_lists.specs.Shapes.{word_lists}
use Rattle.lowering.proofs.loading.add_relation.Given as goal

abbrev pub invariant-loop-words : goal.invariant-loop-words
invariant-loop-words l = word_lists l.slots ≡ word_lists l.initial.slots ++ map (λ row. row.items) l.yielded
