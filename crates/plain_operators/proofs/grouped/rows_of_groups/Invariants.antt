use Rattle.std.proofs.Common.{◌≡◌, map, take}
use Rattle.plain_operators.specs.Places.{row_of_places}
use Rattle.listed.specs.Lists.{lent, owned}
use Rattle.plain_operators.proofs.grouped.rows_of_groups.Given as goal

abbrev pub invariant-loop-places : goal.invariant-loop-places
invariant-loop-places l = owned l.made.items ≡ map (λ places. row_of_places l.keys l.aggregates (lent l.rows) places.items) (take l.places-index l.groups)
