use Rattle.std.proofs.Common.{◌≡◌, length, map}
use Rattle.std.specs.List.{range_with_len}
use Rattle.step_lists.specs.Layout.{layout_of}
use Rattle.step_lists.specs.Possible.{behind}
use Rattle.lowering.specs.Pieces.{shares, wire}
use Rattle.lowering.proofs.share.share_table.Given as goal

abbrev pub invariant-loop-column : goal.invariant-loop-column
invariant-loop-column l = record {
  is : l.list ≡ behind l.initial.list (shares l.party l.first l.column);
  columns : l.columns.items ≡ map wire (range_with_len (length (layout_of l.initial.list).registers) l.column);
}
