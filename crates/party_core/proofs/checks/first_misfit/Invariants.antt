use Rattle.std.proofs.Common.{◌≡◌, length, map, take}
use Rattle.std.specs.List.{AllByRecursion}
use Rattle.lanes.specs.Word.{AreWords}
use Rattle.step_lists.specs.Shapes.{word_lists}
use Rattle.party_core.proofs.checks.first_misfit.Given as goal

abbrev pub invariant-loop-slot : goal.invariant-loop-slot
invariant-loop-slot l = record {
  fits : map length (take l.slot (word_lists l.slots)) ≡ take l.slot l.lengths;
  below : AllByRecursion AreWords (take l.slot (word_lists l.slots));
}
