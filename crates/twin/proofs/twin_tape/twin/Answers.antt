use Rattle.std.proofs.Common.{◌≡◌, ◌+◌, ◌<◌, ◌≤◌, ◌++◌, drop, get_or, length, refl, sym, subst, ap, ◌∙◌}
use Rattle.std.proofs.lemmas.List.{drop_all}
use Rattle.std.proofs.lemmas.Result.{err_from_is_err_and}
use Rattle.lanes.specs.declared.party.Party.{Party}
use Rattle.lanes.specs.Party.{before}
use Rattle.lanes.specs.Three.{at}
use Rattle.step_lists.specs.Layout.{starting, grown_by}
use Rattle.step_lists.specs.Machine.{before_steps}
use Rattle.step_lists.specs.Possible.{SlotsFit}
use Rattle.step_lists.specs.Seen.{AreAlike, seen}
use Rattle.step_lists.specs.Twin.{twin_tape, twin_tapes}
use Rattle.joint_machine.specs.Left.{draws_of}
use Rattle.twin.specs.Called.{IsTwinFault}
use Rattle.twin.specs.Passing.{left_at}
use Rattle.twin.proofs.AllSteps.{step_holds}
use Rattle.twin.proofs.Whole.{starts_fit}
use Rattle.twin.proofs.Stepping.{at_left}
use Rattle.twin.proofs.Ahead.{IsBehind, ahead_start, ahead_next, ahead_ready, ahead_step, ahead_past, ahead_end, none_before, short_registers}
use Rattle.twin.proofs.Ending.{ended_alike, step_fault}
use Rattle.twin.proofs.twin_tape.twin.Goals.{then-not-is_stopped+in_ok-take_step, else-not-is_stopped}
use Rattle.twin.proofs.twin_tape.twin.Goals as goal

pub loop-number-init : goal.loop-number-init
loop-number-init g c =
    let accepts = g.T.Task.accepts in
    let answer = g.T.Task.answer in
    let facts = c.facts.ensures in
    let holds = step_holds accepts answer facts g.met.T.Task.shaped in
    let fit = c.steps_fit.ensures in
    let list = c.args.list.now in
    let steps = list.steps in
    let ds = draws_of c.args.tapes.now in
    let v = c.party_of-viewer.result in
    let l0 = starting list.first in
    let x0 = before_steps c.args.slots.now in
    let y0 = before_steps c.args.other.now in
    let one : SlotsFit list.first c.args.slots.now = record { long = c.requires.slots; below = c.in_ok-start.ensures.below } in
    let other : SlotsFit list.first c.args.other.now = record { long = c.requires.other; below = c.in_ok-start-2.ensures.below } in
    let begins = ahead_start accepts answer facts holds fit v l0 x0 y0 steps ds (record {
      fine = c.steps.ensures.well_formed.fine;
      left = c.requires.tapes;
      one = starts_fit list.first c.args.slots.now one;
      other = starts_fit list.first c.args.other.now other;
      one_fits = fit.starts list.first c.args.slots.now one;
      other_fits = fit.starts list.first c.args.other.now other;
      one_goes = refl;
      other_goes = refl;
    }) in
    record {
      behind =
          subst (λ m. IsBehind accepts answer v l0 x0 y0 steps ds 0 steps m c.in_ok-start-2.field-0 ds c.in_ok-with_room.field-0) (sym c.in_ok-start.ensures.machine)
          (subst (λ m. IsBehind accepts answer v l0 x0 y0 steps ds 0 steps x0 m ds c.in_ok-with_room.field-0) (sym c.in_ok-start-2.ensures.machine)
          (subst (λ t. IsBehind accepts answer v l0 x0 y0 steps ds 0 steps x0 y0 ds t) (sym c.in_ok-with_room.ensures) begins));
      within = none_before ds;
    }

pub take_step-requires-clause-ready : goal.take_step-requires-clause-ready
take_step-requires-clause-ready g c =
    let accepts = g.T.Task.accepts in
    let answer = g.T.Task.answer in
    let facts = c.facts.ensures in
    let holds = step_holds accepts answer facts g.met.T.Task.shaped in
    let fit = c.steps_fit.ensures in
    let list = c.args.list.now in
    let steps = list.steps in
    let ds = draws_of c.args.tapes.now in
    let v = c.party_of-viewer.result in
    let l0 = starting list.first in
    let x0 = before_steps c.args.slots.now in
    let y0 = before_steps c.args.other.now in
    let k = c.loop-number.number in
    let x = c.loop-number.pass.worlds.one in
    let y = c.loop-number.pass.worlds.other in
    let left = left_at c.loop-number.pass.places ds in
    let made = c.loop-number.pass.made in
    let e = c.as_slice-steps.ensures.value ∙ c.steps.ensures.steps in
    let s = c.index-steps-number.result in
    let lt = subst (λ xs. k < length xs) e c.loop-number-test.true in
    let is = c.index-steps-number.is ∙ ap (λ xs. get_or xs k s) e in
    let n = ahead_next accepts answer facts holds v l0 x0 y0 steps ds k s steps x y left made lt is c.loop-number.invariant.behind in
    let a = n.going (sym c.is_stopped.ensures ∙ c.if-not-is_stopped.true) in
    (a.layout, ahead_ready accepts answer facts holds fit v l0 x0 y0 steps ds k s (drop (k + 1) steps) x y left made (short_registers (grown_by l0 steps).registers c.registers.ensures.short) a)

pub returns-in_err-take_step-clause-fault : goal.returns-in_err-take_step-clause-fault
returns-in_err-take_step-clause-fault g c =
    let accepts = g.T.Task.accepts in
    let answer = g.T.Task.answer in
    let facts = c.facts.ensures in
    let holds = step_holds accepts answer facts g.met.T.Task.shaped in
    let fit = c.steps_fit.ensures in
    let list = c.args.list.now in
    let steps = list.steps in
    let ds = draws_of c.args.tapes.now in
    let v = c.party_of-viewer.result in
    let l0 = starting list.first in
    let x0 = before_steps c.args.slots.now in
    let y0 = before_steps c.args.other.now in
    let one : SlotsFit list.first c.args.slots.now = record { long = c.requires.slots; below = c.in_ok-start.ensures.below } in
    let other : SlotsFit list.first c.args.other.now = record { long = c.requires.other; below = c.in_ok-start-2.ensures.below } in
    let k = c.loop-number.number in
    let x = c.loop-number.pass.worlds.one in
    let y = c.loop-number.pass.worlds.other in
    let left = left_at c.loop-number.pass.places ds in
    let made = c.loop-number.pass.made in
    let e = c.as_slice-steps.ensures.value ∙ c.steps.ensures.steps in
    let s = c.index-steps-number.result in
    let lt = subst (λ xs. k < length xs) e c.loop-number-test.true in
    let is = c.index-steps-number.is ∙ ap (λ xs. get_or xs k s) e in
    let n = ahead_next accepts answer facts holds v l0 x0 y0 steps ds k s steps x y left made lt is c.loop-number.invariant.behind in
    let a = n.going (sym c.is_stopped.ensures ∙ c.if-not-is_stopped.true) in
    let ready = ahead_ready accepts answer facts holds fit v l0 x0 y0 steps ds k s (drop (k + 1) steps) x y left made (short_registers (grown_by l0 steps).registers c.registers.ensures.short) a in
    let p = err_from_is_err_and c.from_residual-in_err-take_step.result c.from_residual-in_err-take_step.ensures.1 in
    let fault = c.in_err-take_step.field-0.0 in
    let is_fault = step_fault accepts answer facts holds c.opened_laws.ensures.opened g.met.T.Task.shaped v list c.args.slots.now c.args.other.now ds k s (drop (k + 1) steps) x y left made fault
    c.steps.ensures.well_formed one other c.requires.tapes a (c.in_err-take_step.ensures.fault a.layout ready) in
    rw (p.1, p.2) (subst (λ (p : Party). IsTwinFault answer p list c.args.slots.now c.args.other.now ds fault) c.party_of-viewer.ensures is_fault)

pub loop-number-preserved : goal.loop-number-preserved
loop-number-preserved g c =
    let accepts = g.T.Task.accepts in
    let answer = g.T.Task.answer in
    let facts = c.facts.ensures in
    let holds = step_holds accepts answer facts g.met.T.Task.shaped in
    let fit = c.steps_fit.ensures in
    let list = c.args.list.now in
    let steps = list.steps in
    let ds = draws_of c.args.tapes.now in
    let v = c.party_of-viewer.result in
    let l0 = starting list.first in
    let x0 = before_steps c.args.slots.now in
    let y0 = before_steps c.args.other.now in
    let k = c.loop-number.number in
    let x = c.loop-number.pass.worlds.one in
    let y = c.loop-number.pass.worlds.other in
    let left = left_at c.loop-number.pass.places ds in
    let made = c.loop-number.pass.made in
    let e = c.as_slice-steps.ensures.value ∙ c.steps.ensures.steps in
    let lt = subst (λ xs. k < length xs) e c.loop-number-test.true in
    elim c.if-not-is_stopped.branch [
      | then-not-is_stopped+in_ok-take_step w ↦
          let s = w.index-steps-number.result in
          let is = w.index-steps-number.is ∙ ap (λ xs. get_or xs k s) e in
          let n = ahead_next accepts answer facts holds v l0 x0 y0 steps ds k s steps x y left made lt is c.loop-number.invariant.behind in
          let a = n.going (sym c.is_stopped.ensures ∙ w.if-not-is_stopped.true) in
          let ready = ahead_ready accepts answer facts holds fit v l0 x0 y0 steps ds k s (drop (k + 1) steps) x y left made (short_registers (grown_by l0 steps).registers c.registers.ensures.short) a in
          let new = w.take_step.new.self in
          rw w.pass-is (record {
            behind =
                ahead_step accepts answer facts holds fit v l0 x0 y0 steps ds k s (drop (k + 1) steps) x y left made new.worlds.one new.worlds.other (left_at new.places ds) new.made a
                (w.in_ok-take_step.ensures.passed a.layout ready);
            within = w.in_ok-take_step.ensures.within;
          })
      | else-not-is_stopped w ↦
          rw w.pass-is (record {
            behind = ahead_past accepts answer facts holds v l0 x0 y0 steps ds k steps x y left made lt c.loop-number.invariant.behind (sym c.is_stopped.ensures ∙ w.if-not-is_stopped.false);
            within = c.loop-number.invariant.within;
          })
    ]

pub returns-clause-twin : goal.returns-clause-twin
returns-clause-twin g c =
    let accepts = g.T.Task.accepts in
    let answer = g.T.Task.answer in
    let facts = c.facts.ensures in
    let holds = step_holds accepts answer facts g.met.T.Task.shaped in
    let fit = c.steps_fit.ensures in
    let list = c.args.list.now in
    let steps = list.steps in
    let ds = draws_of c.args.tapes.now in
    let v = c.party_of-viewer.result in
    let l0 = starting list.first in
    let x0 = before_steps c.args.slots.now in
    let y0 = before_steps c.args.other.now in
    let k = c.loop-number.number in
    let x = c.loop-number.pass.worlds.one in
    let y = c.loop-number.pass.worlds.other in
    let left = left_at c.loop-number.pass.places ds in
    let made = c.loop-number.pass.made in
    let e = c.as_slice-steps.ensures.value ∙ c.steps.ensures.steps in
    let le = subst (λ xs. length xs ≤ k) e c.loop-number-test.false in
    let behind = subst (λ ss. IsBehind accepts answer v l0 x0 y0 steps ds k ss x y left made) (drop_all k steps le) c.loop-number.invariant.behind in
    let ended = ahead_end accepts answer facts holds v l0 x0 y0 steps ds k x y left made behind in
    let places = c.loop-number.pass.places in
    c.in_ok-push_kept.ensures
    ∙ (ap (λ t. made ++ drop c.at-place.result.now t) (c.tape_of-unseen.ensures ∙ ap (λ (p : Party). at p ds) c.before-2.ensures)
    ∙ (ap (λ n. made ++ drop n (at (before v) ds)) (c.at-place.ensures ∙ ap (λ (p : Party). at p places) c.before-3.ensures)
    ∙ (ap (λ t. made ++ t) (sym (at_left (before v) places ds))
    ∙ (sym ended.twin ∙ ap (λ (p : Party). twin_tape answer p list c.args.slots.now c.args.other.now ds) c.party_of-viewer.ensures))))

pub returns-clause-alike : goal.returns-clause-alike
returns-clause-alike g c =
    let accepts = g.T.Task.accepts in
    let answer = g.T.Task.answer in
    let facts = c.facts.ensures in
    let holds = step_holds accepts answer facts g.met.T.Task.shaped in
    let fit = c.steps_fit.ensures in
    let list = c.args.list.now in
    let steps = list.steps in
    let ds = draws_of c.args.tapes.now in
    let v = c.party_of-viewer.result in
    let l0 = starting list.first in
    let x0 = before_steps c.args.slots.now in
    let y0 = before_steps c.args.other.now in
    let one : SlotsFit list.first c.args.slots.now = record { long = c.requires.slots; below = c.in_ok-start.ensures.below } in
    let other : SlotsFit list.first c.args.other.now = record { long = c.requires.other; below = c.in_ok-start-2.ensures.below } in
    let k = c.loop-number.number in
    let x = c.loop-number.pass.worlds.one in
    let y = c.loop-number.pass.worlds.other in
    let left = left_at c.loop-number.pass.places ds in
    let made = c.loop-number.pass.made in
    let e = c.as_slice-steps.ensures.value ∙ c.steps.ensures.steps in
    let le = subst (λ xs. length xs ≤ k) e c.loop-number-test.false in
    let behind = subst (λ ss. IsBehind accepts answer v l0 x0 y0 steps ds k ss x y left made) (drop_all k steps le) c.loop-number.invariant.behind in
    let ended = ahead_end accepts answer facts holds v l0 x0 y0 steps ds k x y left made behind in
    subst (λ (p : Party). AreAlike (seen answer p list c.args.slots.now ds) (seen answer p list c.args.other.now (twin_tapes answer p list c.args.slots.now c.args.other.now ds))) c.party_of-viewer.ensures
    (ended_alike accepts answer facts holds c.opened_laws.ensures.opened g.met.T.Task.shaped v list c.args.slots.now c.args.other.now ds c.steps.ensures.well_formed one other c.requires.tapes ended.alike)
