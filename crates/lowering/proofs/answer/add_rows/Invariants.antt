use Rattle.std.proofs.Common.{◌≡◌, ◌++◌, map}
use Rattle.std.specs.Prelude.{◌==◌, filter, not, slice_index}
use Rattle.std.specs.List.{range_with_len}
use Rattle.step_lists.specs.Open.{item}
use Rattle.step_lists.specs.Shapes.{word_lists}
use Rattle.tapes.specs.RowLaws.{row_across}
use Rattle.lowering.proofs.answer.add_rows.Given as goal

abbrev pub invariant-loop-place : goal.invariant-loop-place
invariant-loop-place l = record {
  columns : l.table.columns ≡ l.initial.table.columns;
  rows : l.table.rows ≡ l.initial.table.rows
      ++ map (row_across (map (item (word_lists l.slots)) (range_with_len l.first l.width))) (filter (λ k. not (slice_index l.valid k == 0)) (range_with_len 0 l.place));
}
