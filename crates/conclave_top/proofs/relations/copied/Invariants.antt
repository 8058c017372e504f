use Rattle.std.proofs.Common.{◌≡◌, take}
use Rattle.conclave_top.proofs.relations.copied.Given as goal

-- the columns so far
abbrev pub invariant-loop-column : goal.invariant-loop-column
invariant-loop-column l = l.copy.items ≡ take l.column-index l.columns
