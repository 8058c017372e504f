use Rattle.std.proofs.Common.{◌≡◌, drop}
use Rattle.trust_sets.specs.Faults.{untrusted_column}
use Rattle.trust_sets.specs.Known.{known_at}
use Rattle.trust_sets.proofs.check.untrusted_column.Given as goal

-- no column so far is the one
abbrev pub invariant-loop-column : goal.invariant-loop-column
invariant-loop-column l = untrusted_column l.shape l.right (known_at l.trust.known l.source) l.party 0 l.columns
    ≡ untrusted_column l.shape l.right (known_at l.trust.known l.source) l.party l.column (drop l.column l.columns)
