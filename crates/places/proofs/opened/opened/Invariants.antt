use Rattle.std.proofs.Common.{◌≡◌, ◌<◌, length}
use Rattle.rewrites.specs.Opened.{number_at, opened_nodes}
use Rattle.places.proofs.opened.opened.Given as goal

abbrev pub invariant-loop-nodes : goal.invariant-loop-nodes
invariant-loop-nodes l = record { within : l.below < length l.graph.nodes; same : number_at (opened_nodes l.graph) l.node ≡ number_at (opened_nodes l.graph) l.below }

-- a source has a lower number
abbrev pub decreases-loop-nodes : goal.decreases-loop-nodes
decreases-loop-nodes l = l.below
