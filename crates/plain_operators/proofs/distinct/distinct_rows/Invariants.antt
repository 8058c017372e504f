use Rattle.std.proofs.Common.{◌≡◌, take}
use Rattle.std.specs.HashSet.{contains_by}
use Rattle.bags.specs.Bag.{row_eq}
use Rattle.plain_operators.specs.Limits.{first_of}
use Rattle.listed.specs.Lists.{lent}
use Rattle.plain_operators.proofs.DistinctRows.{WalksDistinct}
use Rattle.plain_operators.proofs.distinct.distinct_rows.Given as goal

abbrev pub invariant-loop-row : goal.invariant-loop-row
invariant-loop-row l = record {
  few : first_of l.limit (lent l.kept.items) ≡ lent l.kept.items;
  walked : WalksDistinct (λ row. contains_by (λ k. row_eq row k.now) l.seen) (lent l.kept.items) (lent (take l.row-index l.rows));
}
