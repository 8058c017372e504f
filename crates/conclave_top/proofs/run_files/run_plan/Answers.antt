use Rattle.std.proofs.Common.{◌≡◌, subst}
use Rattle.clear_tasks.specs.ClearTask.{accepts, answer}
use Rattle.joint_machine.specs.Left.{draws_of}
use Rattle.step_lists.specs.Open.{open_of}
use Rattle.step_lists.specs.Possible.{SlotsFit}
use Rattle.step_lists.specs.Rules.{IsWellFormed}
use Rattle.conclave_top.specs.Run.{first_slots_of}
use Rattle.conclave_top.proofs.PlanRuns.{if_ok, run_is_whole}
use Rattle.conclave_top.proofs.run_files.run_plan.Goals as goal

pub returns-clause-whole : goal.returns-clause-whole
returns-clause-whole c =
    let plan = c.args.plan.now in
    let tables = c.args.world.now in
    let draws = draws_of c.args.tapes.now in
    let same : c.in_ok-slots.slots ≡ first_slots_of plan tables = c.in_ok-slots.ensures.slots in
    let fit : SlotsFit plan.list.first (first_slots_of plan tables) = subst (λ ss. SlotsFit plan.list.first ss) same c.in_ok-slots.ensures.fits in
    let formed : IsWellFormed accepts plan.list = subst (λ l. IsWellFormed accepts l) c.list.ensures.list c.steps.ensures.well_formed in
    if_ok c.run_list.result
    (λ run. λ is.
    let slots : run.slots ≡ (open_of answer plan.list (first_slots_of plan tables) draws).slots =
    subst (λ l. run.slots ≡ (open_of answer l (first_slots_of plan tables) draws).slots) c.list-2.ensures.list
    (subst (λ ss. run.slots ≡ (open_of answer c.list-2.result.now ss draws).slots) same is) in
    run_is_whole plan tables draws run.slots c.values_have_shapes.ensures formed c.requires.correct c.requires.world fit c.requires.tapes slots)
    c.run_list.ensures.slots
