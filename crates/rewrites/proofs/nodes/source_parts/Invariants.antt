use Rattle.std.proofs.Common.{◌≡◌, take}
use Rattle.std.specs.List.{flat_map}
use Rattle.rewrites.specs.Parts.{parts_at}
use Rattle.rewrites.proofs.nodes.source_parts.Given as goal

abbrev pub invariant-loop-source : goal.invariant-loop-source
invariant-loop-source l = l.parts ≡ flat_map (parts_at l.earlier) (take l.source-index l.source-items)
