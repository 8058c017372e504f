use Rattle.std.proofs.Common.{◌∷◌, [], length, ap, sym, ◌∙◌, arith, length-append}
use Rattle.std.specs.Prelude.{slice_get}
use Rattle.lowering.proofs.Elements.{at_within, vec_length}
use Rattle.lowering.proofs.Segmenting.{lowered_output}
use Rattle.lowering.proofs.lower.lower_outputs.Goals as goal

pub loop-output-preserved : goal.loop-output-preserved
loop-output-preserved c = record {
  count = omega (arith, ap length c.in_ok-push.ensures.items, length-append c.loop-output.answers.items (c.in_ok-slots.slots ∷ []), c.loop-output.invariant.count);
  lowered =
      let ended = c.len.ensures ∙ vec_length c.steps.result.now ∙ ap length c.steps.ensures.steps in
      let outputs = c.deref-output-items.ensures.value ∙ c.outputs.ensures.outputs in
      rw (c.in_ok-push.ensures.items, c.in_ok-push-2.ensures.items, ended)
      (lowered_output c.args.graph.now c.loop-output.list c.lower_output.new.list c.args.parts.now c.loop-output.ends.items c.loop-output.answers.items c.loop-output.output-index _ c.in_ok-slots.slots
      c.requires.all c.loop-output.invariant.count (ap (λ os. slice_get os c.loop-output.output-index) (sym outputs) ∙ at_within c.deref-output-items.result.now c.loop-output.output-index _ c.loop-output-test.true)
      c.loop-output.invariant.lowered c.in_ok-slots.ensures);
}
