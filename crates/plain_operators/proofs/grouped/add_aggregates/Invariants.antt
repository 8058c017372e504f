use Rattle.std.proofs.Common.{◌≡◌, ◌++◌, map, take}
use Rattle.plain_operators.specs.Operators.{aggregates_of}
use Rattle.plain_operators.proofs.grouped.add_aggregates.Given as goal

abbrev pub invariant-loop-aggregate : goal.invariant-loop-aggregate
invariant-loop-aggregate l = l.words.items ≡ l.initial.words.items ++ aggregates_of (take l.aggregate-index l.aggregates) (map (λ row. row.now) l.rows)
