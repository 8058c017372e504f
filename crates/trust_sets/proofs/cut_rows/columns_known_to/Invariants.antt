use Rattle.std.proofs.Common.{◌≡◌}
use Rattle.std.specs.List.{filter, range_with_len}
use Rattle.query_graph.specs.Parties.{has}
use Rattle.trust_sets.specs.Known.{column_set}
use Rattle.trust_sets.proofs.cut_rows.columns_known_to.Given as goal

abbrev pub invariant-loop-column : goal.invariant-loop-column
invariant-loop-column l = l.columns.items ≡ filter (λ column. has (column_set l.known column) l.party) (range_with_len 0 l.column)
