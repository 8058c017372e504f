use Rattle.std.proofs.Common.{◌≡◌, drop, map}
use Rattle.std.specs.List.{fold}
use Rattle.trust_sets.specs.Known.{known_at, known_of_both}
use Rattle.trust_sets.proofs.operators.met_with_others.Given as goal

-- what is left meets what was made so far
abbrev pub invariant-loop-other : goal.invariant-loop-other
invariant-loop-other l =
    fold known_of_both (known_at l.earlier l.first) (map (known_at l.earlier) l.others) ≡ fold known_of_both l.made (map (known_at l.earlier) (drop l.other-index l.others))
