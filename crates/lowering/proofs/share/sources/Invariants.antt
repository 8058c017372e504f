use Rattle.std.proofs.Common.{take}
use Rattle.query_graph.specs.Observers.{sources_of}
use Rattle.lowering.specs.Pieces.{AreSources}
use Rattle.lowering.proofs.share.sources.Given as goal

abbrev pub invariant-loop-index : goal.invariant-loop-index
invariant-loop-index l = AreSources l.nodes l.initial.list l.list l.parts (take l.index (sources_of l.shape)) l.tables.items
