use Rattle.std.proofs.Common.{◌≡◌, ◌++◌, take}
use Rattle.std.specs.List.{flat_map}
use Rattle.places.specs.PlanText.{part_text}
use Rattle.places.proofs.plan.add_parts.Given as goal

-- the parts so far were added
abbrev pub invariant-loop-part : goal.invariant-loop-part
invariant-loop-part l = l.text.items ≡ l.initial.text.items ++ flat_map (λ part. part_text part.place) (take l.part-index l.parts)
