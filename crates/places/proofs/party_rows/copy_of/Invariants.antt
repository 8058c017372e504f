use Rattle.std.proofs.Common.{◌≡◌, take}
use Rattle.places.proofs.party_rows.copy_of.Given as goal

abbrev pub invariant-loop-column : goal.invariant-loop-column
invariant-loop-column l = l.copy.items ≡ take l.column-index l.columns
