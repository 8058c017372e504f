use Rattle.std.proofs.Common.{◌≡◌, take}
use Rattle.step_lists.specs.Layout.{starting}
use Rattle.step_lists.specs.Draws.{needs, parties}
use Rattle.step_lists.specs.Schedule.{lists_of}
use Rattle.step_lists.proofs.needs.list_needs.Given as goal

-- the needs of the steps so far
abbrev pub invariant-loop-step : goal.invariant-loop-step
invariant-loop-step g l = lists_of l.schedule ≡ parties (λ p. needs p (starting l.list.first) (take l.step-index l.list.steps))
