use Rattle.std.proofs.Common.{◌≡◌, ◌++◌, map, drop}
use Rattle.tables.specs.Outcome.{map_ok}
use Rattle.conclave_top.specs.Relations.{tables_of}
use Rattle.conclave_top.proofs.relations.tables_of.Given as goal

-- the tables of all are those so far, and those of the rest
abbrev pub invariant-loop-index : goal.invariant-loop-index
invariant-loop-index l =
    tables_of l.folder (map (λ node. node.now) l.relations) (map (λ b. b.items) l.bytes)
    ≡ map_ok (λ tables. l.tables.items ++ tables) (tables_of l.folder (drop l.index (map (λ node. node.now) l.relations)) (drop l.index (map (λ b. b.items) l.bytes)))
