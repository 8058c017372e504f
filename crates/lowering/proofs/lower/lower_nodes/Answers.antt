use Rattle.std.proofs.Common.{◌∷◌, [], length, ap, sym, ◌∙◌, arith, length-append}
use Rattle.std.specs.Prelude.{slice_get}
use Rattle.lowering.proofs.Elements.{vec_length}
use Rattle.lowering.proofs.Segmenting.{lowered_node}
use Rattle.lowering.proofs.lower.lower_nodes.Goals as goal

pub lower_node-requires-clause-stores : goal.lower_node-requires-clause-stores
lower_node-requires-clause-stores c = λ i part h. c.loop-number.invariant.lowered.stores i part (ap (λ ps. slice_get ps i) (sym c.deref.ensures.value) ∙ h)

pub loop-number-preserved : goal.loop-number-preserved
loop-number-preserved c = record {
  count = omega (arith, ap length c.in_ok-push.ensures.items, length-append c.loop-number.parts.items (c.in_ok-part.part ∷ []), c.loop-number.invariant.count);
  lowered =
      let ended = c.len.ensures ∙ vec_length c.steps.result.now ∙ ap length c.steps.ensures.steps in
      rw (c.in_ok-push.ensures.items, c.in_ok-push-2.ensures.items, ended)
      (lowered_node c.args.graph.now c.loop-number.list c.lower_node.new.list c.loop-number.parts.items c.loop-number.ends.items c.loop-number.number c.in_ok-part.part
      c.loop-number.invariant.count (omega (arith, c.loop-number-test.true, c.len-number-end.ensures, vec_length c.nodes.result.now, ap length c.nodes.ensures.nodes)) c.loop-number.invariant.lowered c.in_ok-part.ensures);
}
