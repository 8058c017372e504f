use Rattle.std.proofs.Common.{◌≤◌, drop, length}
use Rattle.plain_meaning.specs.Fits.{AreFiles}
use Rattle.std.specs.Prelude.{◌↔◌}
use Rattle.plain_meaning.proofs.world.are_files.Given as goal

abbrev pub invariant-loop-node : goal.invariant-loop-node
invariant-loop-node l = record { within : l.number ≤ length l.tables; same : AreFiles (drop l.node-index l.nodes) (drop l.number l.tables) ↔ AreFiles l.nodes l.tables }
