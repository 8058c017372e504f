use Rattle.std.proofs.Common.{◌≡◌, take}
use Rattle.std.specs.List.{AllByRecursion}
use Rattle.lanes.specs.Word.{AreWords}
use Rattle.step_lists.specs.Shapes.{word_lists}
use Rattle.joint_machine.proofs.run.copy_slots.Given as goal

abbrev pub invariant-loop-words : goal.invariant-loop-words
invariant-loop-words l = record {
  same : word_lists l.made ≡ take l.words-index (word_lists l.slots);
  below : AllByRecursion AreWords (take l.words-index (word_lists l.slots));
}
