use Rattle.std.proofs.Common.{◌≡◌, map}
use Rattle.std.specs.List.{range_with_len}
use Rattle.step_lists.specs.Open.{item}
use Rattle.step_lists.specs.Shapes.{word_lists}
use Rattle.tapes.specs.RowLaws.{row_across}
use Rattle.lowering.proofs.answer.row_of.Given as goal

abbrev pub invariant-loop-column : goal.invariant-loop-column
invariant-loop-column l = l.row.items ≡ row_across (map (item (word_lists l.slots)) (range_with_len l.first l.column)) l.place
