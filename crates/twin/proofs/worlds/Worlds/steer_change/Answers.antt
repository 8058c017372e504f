use Rattle.std.proofs.Common.{◌≡◌, length, sym, subst, ap, ◌∙◌}
use Rattle.std.specs.Prelude.{if◌then◌else◌}
use Rattle.step_lists.specs.Draws.{needs_steer, taken}
use Rattle.step_lists.specs.Machine.{slot_of}
use Rattle.step_lists.specs.Seen.{same_party}
use Rattle.step_lists.specs.Twin.{steered_order}
use Rattle.joint_machine.specs.Left.{AreNext, lefts}
use Rattle.joint_machine.specs.Steps.{HoldSteer, drawn, rows_of_all}
use Rattle.twin.proofs.Steering.{second_steer, steer_is}
use Rattle.twin.proofs.worlds.Worlds.steer_change.Goals as goal

pub draw_steer-requires : goal.draw_steer-requires
draw_steer-requires c =
    subst (λ n. AreNext (needs_steer c.args.by (length c.args.moved.now) n) (lefts c.args.tapes.now)) (sym c.rows_in-rows.ensures) c.requires.draws

pub returns : goal.returns
returns c =
    let v = c.args.viewer in
    let by = c.args.by in
    let x = c.args.self.now.one in
    let y = c.args.self.now.other in
    let moved = c.args.moved.now in
    let m = length moved in
    let n = rows_of_all x moved in
    let left = lefts c.args.tapes.now in
    let ds = taken (needs_steer by m n) left in
    let d = c.in_ok-draws.draws in
    let one = drawn d.one.order.now d.one.mask.now d.one.other.now in
    let is = c.in_ok-draws.ensures in
    let holds : HoldSteer by ds one d.mask.now d.other.now = subst (λ k. HoldSteer by (taken (needs_steer by m k) left) one d.mask.now d.other.now) c.rows_in-rows.ensures is.holds in
    let g : c.in_ok-g.g ≡ slot_of x by c.args.slot = c.in_ok-g.ensures ∙ (c.deref.ensures.value ∙ c.slot.ensures) in
    let h : c.in_ok-h.h ≡ slot_of y by c.args.slot = c.in_ok-h.ensures ∙ (c.deref-2.ensures.value ∙ c.slot-2.ensures) in
    let steered = c.is_same-steered.ensures ∙ ap (same_party by) c.next.ensures in
    let order : c.in_ok-order.order ≡ second_steer v by one.order c.in_ok-g.g c.in_ok-h.h =
    c.in_ok-order.ensures ∙ ap (λ b. if b then steered_order one.order c.in_ok-g.g c.in_ok-h.h else one.order) steered in
    steer_is v by n moved x y ds (slot_of x by c.args.slot) (slot_of y by c.args.slot) one.order c.in_ok-order.order c.in_ok-words.words.items c.in_ok-g.g c.in_ok-h.h (length one.order)
    holds.order g h (is.one_long.order ∙ c.rows_in-rows.ensures) order (c.in_ok-words.ensures ds holds)
