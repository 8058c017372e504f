use Rattle.std.proofs.Common.{◌≡◌, map, take}
use Rattle.plain_operators.specs.Items.{holds_of}
use Rattle.plain_operators.specs.Limits.{first_of}
use Rattle.plain_operators.specs.Operators.{kept_rows}
use Rattle.listed.specs.Lists.{lent}
use Rattle.plain_operators.proofs.kept.kept_rows.Given as goal

abbrev pub invariant-loop-row : goal.invariant-loop-row
invariant-loop-row l = lent l.kept.items ≡ first_of l.limit (kept_rows (map holds_of l.tests) (lent (take l.row-index l.rows)))
