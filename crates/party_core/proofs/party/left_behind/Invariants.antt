use Rattle.std.proofs.Common.{◌≡◌, ◌+◌, ◌-◌, ◌^◌, ◌≤◌, Some, drop, min}
use Rattle.std.specs.Prelude.{slice_get}
use Rattle.step_lists.specs.declared.step.Step.{Step}
use Rattle.step_lists.specs.Part.{count_from}
use Rattle.party_core.specs.Holding.{layout_at}
use Rattle.party_core.specs.Stages.{stages_behind, stage_count}
use Rattle.party_core.proofs.party.left_behind.Given as goal

-- what was counted, with what is left; and a step has no fewer stages than are done of it
abbrev pub invariant-loop-next : goal.invariant-loop-next
invariant-loop-next g l = record {
  sum : min (l.left + count_from l.source (drop l.stages (stages_behind l.party (layout_at l.list l.next) (drop l.next l.list.steps)))) (2 ^ 128 - 1)
      ≡ min (count_from l.source (drop l.done (stages_behind l.party (layout_at l.list l.place) (drop l.place l.list.steps)))) (2 ^ 128 - 1);
  fits : l.left ≤ 2 ^ 128 - 1;
  within : (s : Step g.row.T.Denot) → slice_get l.list.steps l.next ≡ Some s → l.stages ≤ stage_count l.party (layout_at l.list l.next) s;
}
