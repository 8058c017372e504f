use Rattle.std.proofs.Common.{◌≡◌, ◌++◌, map, take}
use Rattle.trust_sets.specs.Known.{aggregate_set}
use Rattle.trust_sets.proofs.columns.add_aggregates.Given as goal

-- those of the aggregates so far were added
abbrev pub invariant-loop-aggregate : goal.invariant-loop-aggregate
invariant-loop-aggregate l = l.sets.items ≡ l.initial.sets.items ++ map (aggregate_set l.source l.rows) (take l.aggregate-index l.aggregates)
