use Rattle.std.proofs.Common.{◌≡◌, map, take}
use Rattle.plain_operators.specs.declared.aggregate.Aggregate.TheVariants.{Sum}
use Rattle.plain_operators.specs.Operators.{aggregated}
use Rattle.plain_operators.proofs.aggregate.sum.Given as goal

abbrev pub invariant-loop-row : goal.invariant-loop-row
invariant-loop-row l = l.total ≡ aggregated (Sum l.column) (map (λ row. row.now) (take l.row-index l.rows))
