use Rattle.std.proofs.Common.{ap, sym, ◌∙◌, arith}
use Rattle.std.proofs.lemmas.Grind.{common_steps}
use Rattle.lanes.specs.Lanes.{picked}
use Rattle.wires.specs.Environment.{all_words}
use Rattle.wires.specs.Held.{values_of}
use Rattle.wires.specs.HeldLaws.{assignment_values, pushes_carries}
use Rattle.wires.proofs.LaneLoops.{picked_all, picked_more}
use Rattle.wires.proofs.clear.ClearWires.gather.Goals as goal

pub loop-place-preserved : goal.loop-place-preserved
loop-place-preserved c =
    let more = picked_more c.args.places.now (values_of c.args.self.now c.args.sources.now) c.loop-place.place-index (omega arith) in
    (grind (arith, common_steps, more, c.in_ok-push.ensures.items), grind (arith, common_steps, c.in_ok-push.ensures.len))

pub returns-clause-ok : goal.returns-clause-ok
returns-clause-ok c =
    let places = c.args.places.now in
    let all = picked_all places (values_of c.args.self.now c.args.sources.now) c.loop-place.place-index (omega arith) in
    pushes_carries c.args.self.now _ _ _ _ (λ v. picked places (all_words v c.args.sources.now)) c.in_ok-new.ensures.ok (omega arith)
    (λ v is. ap (picked places) (assignment_values c.args.self.now v c.args.sources.now c.requires.made is) ∙ sym all ∙ sym c.loop-place.invariant.0)
