use Rattle.std.proofs.Common.{◌≡◌, length, map, subst, ◌∙◌, ap}
use Rattle.lanes.specs.Party.{before}
use Rattle.step_lists.specs.Machine.{delivered, slot_of}
use Rattle.step_lists.specs.Phases.{message}
use Rattle.joint_machine.specs.Seen.{lists}
use Rattle.joint_machine.specs.Steps.{IsPhase, IsDrawnFor, drawn}
use Rattle.joint_machine.proofs.Steering.{steer_is, order_left}
use Rattle.joint_machine.proofs.machine.Machine.push_steer.Goals as goal

pub returns : goal.returns
returns c ds holds =
    let m = c.args.self.now in
    let p = c.args.by in
    let n = length c.args.one.now.order.now in
    let g = slot_of m p c.args.slot in
    let one = drawn c.args.one.now.order.now c.args.one.now.mask.now c.args.one.now.other.now in
    let two = drawn c.in_ok-order.order c.args.mask.now c.args.other.now in
    let m0 = c.send.new.self in
    let m1 = c.run_phase.new.self in
    let m2 = c.run_phase-2.new.self in
    let made1 = map lists c.in_ok-first.first.items in
    let made2 = map lists c.in_ok-second.second.items in
    let left = order_left one.order g c.deref.result.now c.in_ok-order.order c.in_ok-order.ensures (c.deref.ensures.value ∙ c.slot.ensures) c.requires.long in
    let l2 : IsDrawnFor n _ two = record { order = left.long; mask = c.requires.mask; other = c.requires.other } in
    let e0 : m0 ≡ delivered (message p (before p) two.order) m =
    cc (c.in_ok-send.ensures, c.before-2.ensures, c.deref-2.ensures.value, c.in_ok-words_of_order.ensures) in
    let p1 = subst (λ j. IsPhase m0 j one.order (map lists c.deref-3.result.now) one.mask one.other made1 m1) c.next.ensures c.in_ok-first.ensures.phase in
    let p2 = subst (λ xs. IsPhase m1 p two.order (map lists xs) two.mask two.other made2 m2) c.deref-4.ensures.value c.in_ok-second.ensures.phase in
    steer_is m m0 m1 m2 c.push_registers.new.self n p g c.args.moved.now ds one two (map lists c.deref-3.result.now) made1 made2
    (ap (map lists) c.deref-3.ensures.value ∙ c.in_ok-start.ensures)
    c.requires.one l2 left.is holds e0 p1 p2 c.in_ok-push_registers.ensures
