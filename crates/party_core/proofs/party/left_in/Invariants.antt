use Rattle.std.proofs.Common.{◌≡◌, ◌+◌, ◌-◌, ◌^◌, ◌≤◌, drop, min}
use Rattle.step_lists.specs.Part.{count_from}
use Rattle.party_core.specs.Holding.{takes_by}
use Rattle.party_core.proofs.party.left_in.Given as goal

-- what was counted, with what is left
abbrev pub invariant-loop-stage : goal.invariant-loop-stage
invariant-loop-stage g l = record {
  sum : min (l.left + count_from l.source (drop l.stage (takes_by l.party l.step l.rows))) (2 ^ 128 - 1)
      ≡ min (count_from l.source (drop l.done (takes_by l.party l.step l.rows))) (2 ^ 128 - 1);
  fits : l.left ≤ 2 ^ 128 - 1;
}
