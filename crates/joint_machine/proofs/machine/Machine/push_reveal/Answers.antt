use Rattle.std.proofs.Common.{length, map, subst, ◌∙◌, ap}
use Rattle.std.specs.List.{flat_map}
use Rattle.lanes.specs.declared.party.Party.TheVariants.{Second, Third}
use Rattle.lanes.specs.Party.{next, before}
use Rattle.lanes.specs.Three.{at, opened}
use Rattle.step_lists.specs.Machine.{delivered, with_more_slots}
use Rattle.step_lists.specs.Phases.{message}
use Rattle.joint_machine.specs.Seen.{lists}
use Rattle.joint_machine.specs.Steps.{IsPhase, drawn, shown_of}
use Rattle.joint_machine.proofs.Revealing.{reveal_is}
use Rattle.joint_machine.proofs.machine.Machine.push_reveal.Goals as goal

pub returns : goal.returns
returns c ds holds =
    let to = c.args.to in
    let shown = c.args.shown.now in
    let one = drawn c.args.one.now.order.now c.args.one.now.mask.now c.args.one.now.other.now in
    let two = drawn c.args.two.now.order.now c.args.two.now.mask.now c.args.two.now.other.now in
    let three = drawn c.args.three.now.order.now c.args.three.now.mask.now c.args.three.now.other.now in
    let m1 = c.run_phase.new.self in
    let m2 = c.run_phase-2.new.self in
    let m3 = c.run_phase-3.new.self in
    let made1 = map lists c.in_ok-first.first.items in
    let made2 = map lists c.in_ok-second.second.items in
    let made3 = map lists c.in_ok-third.third.items in
    let p2 = subst (λ xs. IsPhase m1 Second two.order (map lists xs) two.mask two.other made2 m2) c.deref-2.ensures.value c.in_ok-second.ensures.phase in
    let p3 = subst (λ xs. IsPhase m2 Third three.order (map lists xs) three.mask three.other made3 m3) c.deref-3.ensures.value c.in_ok-third.ensures.phase in
    let e4 = c.in_ok-show.ensures
    ∙ ap (λ xs. with_more_slots (delivered (message (next to) to (flat_map (at (before to)) (shown_of (map lists xs) shown))) m3) to (map opened (shown_of (map lists xs) shown)))
    c.deref-4.ensures.value in
    reveal_is c.args.self.now m1 m2 m3 c.show.new.self c.push_registers.new.self (length c.args.one.now.order.now) to c.args.moved.now shown ds one two three
    (map lists c.deref.result.now) made1 made2 made3
    (ap (map lists) c.deref.ensures.value ∙ c.in_ok-start.ensures)
    c.requires.one c.requires.two c.requires.three holds c.in_ok-first.ensures.phase p2 p3 e4 c.in_ok-push_registers.ensures
