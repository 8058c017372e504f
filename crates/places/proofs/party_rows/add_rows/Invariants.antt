use Rattle.std.proofs.Common.{◌≡◌, ◌++◌, take}
use Rattle.places.proofs.party_rows.add_rows.Given as goal

abbrev pub invariant-loop-number : goal.invariant-loop-number
invariant-loop-number l = record { columns : l.pooled.columns ≡ l.initial.pooled.columns; rows : l.pooled.rows ≡ l.initial.pooled.rows ++ take l.number l.more.rows }
