use Rattle.std.proofs.Common.{◌≡◌, ◌+◌, ◌-◌, ◌≤◌, ◌++◌, replicate}
use Rattle.step_lists.proofs.layout.push_many.Given as goal

-- so many are added, and there is room for the others
abbrev pub invariant-loop : goal.invariant-loop
invariant-loop g l =
    (l.items.items ≡ l.fn.items.items ++ replicate l.counter l.item) × (l.items.len + (l.count - l.counter) ≤ l.items.cap)
