use Rattle.std.proofs.Common.{length, List, ℕ, Bor, subst}
use Rattle.std.specs.List.{All}
use Rattle.plain_operators.specs.declared.aggregate.Aggregate.{Aggregate}
use Rattle.plain_operators.specs.Within.{IsAggregateOf}
use Rattle.plain_operators.proofs.aggregate.Aggregate.over.Goals as goal

-- each of these rows has what the aggregate asks for
Fits : List (Bor (List ℕ)) → Aggregate → Type 0
Fits rows aggregate = All (λ row. IsAggregateOf (length row.now) aggregate) rows

pub sum-requires : goal.sum-requires
unfolding Fits
sum-requires c = subst (Fits c.args.rows.now) c.in-Sum.is c.requires

pub least-requires : goal.least-requires
unfolding Fits
least-requires c = subst (Fits c.args.rows.now) c.in-Least.is c.requires

pub greatest-requires : goal.greatest-requires
unfolding Fits
greatest-requires c = subst (Fits c.args.rows.now) c.in-Greatest.is c.requires
