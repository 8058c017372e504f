use Rattle.std.proofs.Common.{◌≡◌, ◌++◌, take}
use Rattle.std.specs.List.{flat_map}
use Rattle.places.specs.PlanText.{counter_text}
use Rattle.places.proofs.plan.add_counters.Given as goal

-- the parties of the flags so far were added
abbrev pub invariant-loop-flag : goal.invariant-loop-flag
invariant-loop-flag l = l.text.items ≡ l.initial.text.items ++ flat_map (counter_text l.number) (take l.flag-index l.flags)
