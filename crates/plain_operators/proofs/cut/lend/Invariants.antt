use Rattle.std.proofs.Common.{◌≡◌, map, take, drop}
use Rattle.std.specs.List.{flat_map}
use Rattle.plain_operators.specs.Columns.{cut}
use Rattle.listed.specs.Lists.{lent}
use Rattle.plain_operators.proofs.cut.lend.Given as goal

-- the words that are left are those of the rows that are left
abbrev pub invariant-loop-row : goal.invariant-loop-row
invariant-loop-row l = record {
  made : lent l.cut.items ≡ map (cut l.columns) (lent (take l._row-index l.rows));
  left : l.rest ≡ flat_map (cut l.columns) (lent (drop l._row-index l.rows));
}
