use Rattle.std.proofs.Common.{◌≡◌, ◌∙◌, subst}
use Rattle.clear_tasks.specs.ClearTask.{answer}
use Rattle.joint_machine.specs.Left.{draws_of}
use Rattle.lanes.specs.Three.{each}
use Rattle.step_lists.specs.Open.{open_of}
use Rattle.step_lists.specs.Shapes.{word_lists}
use Rattle.conclave_top.specs.Added.{AreAdded, HoldAnswers}
use Rattle.conclave_top.specs.AnswerFiles.{answers_of}
use Rattle.conclave_top.specs.Run.{first_slots_of, links_of, view_writes}
use Rattle.conclave_top.proofs.Answered.{all_output, all_writes}
use Rattle.conclave_top.proofs.PlanRuns.{run_holds}
use Rattle.conclave_top.proofs.run_files.results_of.Goals as goal

pub returns-clause-writes : goal.returns-clause-writes
returns-clause-writes c =
    let plan = c.args.plan.now in
    let tables = c.args.world.now in
    let draws = draws_of c.args.tapes.now in
    let start = c.no_results-results.result in
    let mid = c.add_views.new.results in
    let slots = each word_lists c.in_ok-slots.slots in
    let same : slots ≡ (open_of answer plan.list (first_slots_of plan tables) draws).slots = c.in_ok-slots.ensures ∙ c.in_ok-run.ensures.slots in
    let hold : HoldAnswers plan tables slots = run_holds plan tables draws slots c.requires.correct c.requires.world c.requires.tapes same in
    let views : AreAdded (view_writes c.args.name.now (links_of plan tables draws)) start mid =
    subst (λ ls. AreAdded (view_writes c.args.name.now ls) start mid) c.in_ok-run.ensures.links c.in_ok-add_views.ensures in
    all_writes (view_writes c.args.name.now (links_of plan tables draws)) (answers_of plan.graph tables) start mid c.add_answers.new.results c.no_results-results.ensures.writes views (c.in_ok-add_answers.ensures tables hold)

pub returns-clause-output : goal.returns-clause-output
returns-clause-output c =
    let plan = c.args.plan.now in
    let tables = c.args.world.now in
    let draws = draws_of c.args.tapes.now in
    let start = c.no_results-results.result in
    let mid = c.add_views.new.results in
    let slots = each word_lists c.in_ok-slots.slots in
    let same : slots ≡ (open_of answer plan.list (first_slots_of plan tables) draws).slots = c.in_ok-slots.ensures ∙ c.in_ok-run.ensures.slots in
    let hold : HoldAnswers plan tables slots = run_holds plan tables draws slots c.requires.correct c.requires.world c.requires.tapes same in
    all_output (view_writes c.args.name.now c.in_ok-run.run'.links) (answers_of plan.graph tables) start mid c.add_answers.new.results c.no_results-results.ensures.output c.in_ok-add_views.ensures (c.in_ok-add_answers.ensures tables hold)
