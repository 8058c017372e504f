use Rattle.std.proofs.Common.{◌≡◌, suc, ◌+◌, ◌<◌, length, take, slice_index_or, sym, ap, ◌∙◌, arith}
use Rattle.std.proofs.lemmas.Grind.{common_steps}
use Rattle.step_lists.specs.Layout.{layout_of, starting}
use Rattle.step_lists.specs.Draws.{joined, needs, needs_of, parties}
use Rattle.step_lists.specs.Schedule.{lists_of}
use Rattle.step_lists.proofs.Joining.{needs_more}
use Rattle.step_lists.proofs.needs.list_needs.Goals as goal

pub loop-step-preserved : goal.loop-step-preserved
loop-step-preserved g c =
    let list = c.args.list.now in
    let k = c.loop-step.step-index in
    let s = c.step-item.result in
    let items = c.deref-step-items.ensures.value ∙ c.steps.ensures.steps in
    let is : slice_index_or list.steps k s ≡ s = ap (λ xs. slice_index_or xs k s) (sym items) ∙ sym c.step-item.is in
    let below : k < length list.steps = grind (arith, common_steps) in
    let next_step : suc k ≡ k + 1 = omega arith in
    let pushed : lists_of c.push_needs.new.schedule ≡ joined (lists_of c.loop-step.schedule) (needs_of c.layout.result.now.now s) = c.in_ok-push_needs.ensures in
    pushed
    ∙ ap (λ l. joined (lists_of c.loop-step.schedule) (needs_of l s)) c.layout.ensures
    ∙ ap (λ x. joined x (needs_of (layout_of list) s)) c.loop-step.invariant
    ∙ needs_more g.T.Task.accepts list k s c.steps.ensures.well_formed below is
    ∙ ap (λ n. parties (λ p. needs p (starting list.first) (take n list.steps))) next_step
