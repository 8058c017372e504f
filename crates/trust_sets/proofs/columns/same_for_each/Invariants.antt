use Rattle.std.proofs.Common.{◌≡◌, map, take}
use Rattle.trust_sets.proofs.columns.same_for_each.Given as goal

-- one for each item so far
abbrev pub invariant-loop-item : goal.invariant-loop-item
invariant-loop-item g l = l.sets.items ≡ map (λ item. l.set) (take l._item-index l.items)
