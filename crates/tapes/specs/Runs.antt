-- Needs as runs of equal ones.
use Rattle.std.specs.Prelude.{List, [], ◌∷◌, ◌++◌, replicate}
use Rattle.tapes.specs.declared.draw.Need.{Need}
use Rattle.tapes.specs.declared.needs.Run.{Run}

-- the needs of runs, one run after the other
abbrev pub needs_of : List Run → List Need
needs_of [] = []
needs_of (run ∷ runs) = replicate run.count run.need ++ needs_of runs
