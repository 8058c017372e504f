use Rattle.std.proofs.Common.{◌≡◌, take}
use Rattle.query_graph.specs.Observers.{sources_of}
use Rattle.rewrites.proofs.nodes.sources.Given as goal

abbrev pub invariant-loop-index : goal.invariant-loop-index
invariant-loop-index l = l.sources.items ≡ take l.index (sources_of l.shape)
