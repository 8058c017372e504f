use Rattle.std.proofs.Common.{◌≡◌, ◌<◌, drop}
use Rattle.std.specs.Prelude.{slice_index}
use Rattle.wires.specs.Growth.{total_lanes}
use Rattle.wires.specs.Held.{held_shape, values_of}
use Rattle.wires.proofs.clear.Clear.word_at.Given as goal

-- the place lies so far into the sources that are left
abbrev pub invariant-loop-source : goal.invariant-loop-source
invariant-loop-source l = (slice_index (values_of l.self l.sources) l.place ≡ slice_index (values_of l.self (drop l.source-index l.sources)) l.rest)
    × (l.rest < total_lanes (held_shape l.self) (drop l.source-index l.sources))
