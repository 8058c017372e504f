use Rattle.std.proofs.Common.{◌≡◌, map, take}
use Rattle.plain_operators.specs.declared.aggregate.Aggregate.TheVariants.{Least}
use Rattle.plain_operators.specs.Operators.{aggregated}
use Rattle.plain_operators.proofs.aggregate.least.Given as goal

abbrev pub invariant-loop-row : goal.invariant-loop-row
invariant-loop-row l = l.best ≡ aggregated (Least l.column) (map (λ row. row.now) (take l.row-index l.rows))
