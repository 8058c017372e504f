use Rattle.std.proofs.Common.{◌≡◌, ◌++◌, drop}
use Rattle.trust_sets.specs.Known.{known_at}
use Rattle.places.specs.PlanText.{columns_text}
use Rattle.places.proofs.plan.add_known.Given as goal

-- with the other columns the text has all of them
abbrev pub invariant-loop-place : goal.invariant-loop-place
invariant-loop-place l =
    l.text.items ++ columns_text (known_at l.trust.known l.number) l.place (drop l.place l.columns)
    ≡ l.initial.text.items ++ columns_text (known_at l.trust.known l.number) 0 l.columns
