use Rattle.std.proofs.Common.{map}
use Rattle.plain_meaning.proofs.Steps.{Walks}
use Rattle.plain_meaning.proofs.walk.plain.Given as goal

abbrev pub invariant-loop-number : goal.invariant-loop-number
invariant-loop-number l = Walks l.graph.nodes (map (λ t. t.rows) l.world) l.number l.tables.items l.relation
