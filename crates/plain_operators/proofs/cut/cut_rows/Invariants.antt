use Rattle.std.proofs.Common.{◌≡◌, take}
use Rattle.std.specs.List.{flat_map}
use Rattle.plain_operators.specs.Columns.{cut}
use Rattle.listed.specs.Lists.{lent}
use Rattle.plain_operators.proofs.cut.cut_rows.Given as goal

abbrev pub invariant-loop-row : goal.invariant-loop-row
invariant-loop-row l = l.words.items ≡ flat_map (cut l.columns) (lent (take l.row-index l.rows))
