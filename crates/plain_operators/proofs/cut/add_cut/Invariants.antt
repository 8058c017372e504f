use Rattle.std.proofs.Common.{◌≡◌, ◌++◌, take}
use Rattle.plain_operators.specs.Columns.{cut}
use Rattle.plain_operators.proofs.cut.add_cut.Given as goal

abbrev pub invariant-loop-column : goal.invariant-loop-column
invariant-loop-column l = l.words.items ≡ l.initial.words.items ++ cut (take l.column-index l.columns) l.row
