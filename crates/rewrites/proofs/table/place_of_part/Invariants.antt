use Rattle.std.proofs.Common.{◌≡◌, drop}
use Rattle.rewrites.specs.PartTables.{place_of_part}
use Rattle.rewrites.proofs.table.place_of_part.Given as goal

-- it lies in the sources that are left
abbrev pub invariant-loop-source : goal.invariant-loop-source
invariant-loop-source l = place_of_part l.rewritten.parts l.sources l.part ≡ place_of_part l.rewritten.parts (drop l.source-index l.sources) l.left
