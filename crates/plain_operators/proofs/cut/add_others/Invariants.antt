use Rattle.std.proofs.Common.{◌≡◌, ◌++◌}
use Rattle.plain_operators.specs.Columns.{cut, other_columns}
use Rattle.plain_operators.proofs.cut.add_others.Given as goal

abbrev pub invariant-loop-column : goal.invariant-loop-column
invariant-loop-column l = l.words.items ≡ l.initial.words.items ++ cut (other_columns l.keys l.column) l.row
