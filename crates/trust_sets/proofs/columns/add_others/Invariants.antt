use Rattle.std.proofs.Common.{◌≡◌, ◌++◌, map}
use Rattle.plain_operators.specs.Columns.{other_columns}
use Rattle.trust_sets.specs.Known.{met_with}
use Rattle.trust_sets.proofs.columns.add_others.Given as goal

-- those of the columns so far that aren't keys were added
abbrev pub invariant-loop-column : goal.invariant-loop-column
invariant-loop-column l = l.sets.items ≡ l.initial.sets.items ++ map (met_with l.source l.rows) (other_columns l.keys l.column)
