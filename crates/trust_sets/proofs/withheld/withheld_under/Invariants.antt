use Rattle.std.proofs.Common.{◌≡◌, drop, map}
use Rattle.std.specs.List.{fold}
use Rattle.trust_sets.specs.Release.{nothing_withheld, withheld_at, withheld_of_both}
use Rattle.trust_sets.proofs.withheld.withheld_under.Given as goal

-- what is left goes with what was found so far
abbrev pub invariant-loop-source : goal.invariant-loop-source
invariant-loop-source l =
    fold withheld_of_both nothing_withheld (map (withheld_at l.earlier) l.sources) ≡ fold withheld_of_both l.withheld (map (withheld_at l.earlier) (drop l.source-index l.sources))
