use Rattle.std.proofs.Common.{◌≡◌, ◌+◌, ◌<◌, ◌≤◌, drop, get_or, length, sym, subst, ◌∙◌, ap}
use Rattle.std.proofs.lemmas.List.{drop_all}
use Rattle.lanes.specs.Three.{at}
use Rattle.lanes.specs.declared.three.Three.{Three}
use Rattle.tapes.specs.Reading.{Reading}
use Rattle.step_lists.specs.Draws.{needs}
use Rattle.step_lists.specs.Layout.{starting}
use Rattle.step_lists.specs.Machine.{before_steps, joint_of}
use Rattle.joint_machine.specs.Left.{draws_of, left, lefts}
use Rattle.joint_machine.proofs.Ahead.{IsAhead, ahead_ready, ahead_step, ahead_stopped, ahead_start, ahead_end, ahead_next, fits_front}
use Rattle.joint_machine.proofs.Drawing.{same_three}
use Rattle.joint_machine.proofs.Facts.{Facts}
use Rattle.joint_machine.proofs.SharesOpened.{shares_are_opened}
use Rattle.joint_machine.proofs.run.run_list.Goals.{then-not-is_stopped+in_ok-run_step, else-not-is_stopped}
use Rattle.joint_machine.proofs.run.run_list.Goals as goal

pub run_step-requires : goal.run_step-requires
run_step-requires g c =
    let list = c.args.list.now in
    let whole = joint_of g.T.Task.answer list c.args.slots.now (draws_of c.args.tapes.now) in
    let k = c.loop-step.step-index in
    let s = c.step-item.result in
    let m = c.loop-step.machine in
    let x = lefts c.loop-step.readers in
    let e = c.deref-step-items.ensures.value ∙ c.steps.ensures.steps in
    let lt = subst (λ xs. k < length xs) e c.loop-step-test.true in
    let is = c.step-item.is ∙ ap (λ xs. get_or xs k s) e in
    let ahead = ahead_next g.T.Task.accepts g.T.Task.answer whole m s list.steps k x lt is c.loop-step.invariant in
    ahead_ready g.T.Task.accepts g.T.Task.answer whole m s (drop (k + 1) list.steps) x ahead (sym c.is_stopped.ensures ∙ c.if-not-is_stopped.true)

pub loop-step-init : goal.loop-step-init
loop-step-init g c =
    let list = c.args.list.now in
    let slots = c.args.slots.now in
    let ds = draws_of c.args.tapes.now in
    let whole = joint_of g.T.Task.answer list slots ds in
    let start = ahead_start g.T.Task.accepts g.T.Task.answer list slots ds c.steps.ensures.well_formed
    (record { long = c.requires.slots; below = c.in_ok-machine.ensures.below }) c.requires.tapes in
    let readers : Three Reading = record { first = c.cursor.result; second = c.cursor-2.result; third = c.cursor-3.result } in
    let same : lefts readers ≡ ds = same_three _ _ (ap left c.cursor.ensures) (ap left c.cursor-2.ensures) (ap left c.cursor-3.ensures) in
    subst (λ m. IsAhead g.T.Task.accepts g.T.Task.answer whole list.steps m (lefts readers)) (sym c.in_ok-machine.ensures.machine)
    (subst (λ ds. IsAhead g.T.Task.accepts g.T.Task.answer whole list.steps (before_steps slots) ds) (sym same) start)

pub loop-step-preserved : goal.loop-step-preserved
loop-step-preserved g c =
    let list = c.args.list.now in
    let whole = joint_of g.T.Task.answer list c.args.slots.now (draws_of c.args.tapes.now) in
    let k = c.loop-step.step-index in
    let s = c.step-item.result in
    let m = c.loop-step.machine in
    let x = lefts c.loop-step.readers in
    let ss = drop (k + 1) list.steps in
    let e = c.deref-step-items.ensures.value ∙ c.steps.ensures.steps in
    let lt = subst (λ xs. k < length xs) e c.loop-step-test.true in
    let is = c.step-item.is ∙ ap (λ xs. get_or xs k s) e in
    let ahead = ahead_next g.T.Task.accepts g.T.Task.answer whole m s list.steps k x lt is c.loop-step.invariant in
    let facts : Facts = record {
      commutes = c.lane_laws.ensures.xor_commutes;
      associates = c.lane_laws.ensures.xor_associates;
      comes_off = c.lane_laws.ensures.mask_comes_off;
      not_of_one = c.lane_laws.ensures.not_of_one_share;
      pick = c.lane_laws.ensures.pick_of_xor;
      stay = c.lane_laws.ensures.words_stay;
      lengths = c.item_laws.ensures.lengths;
      behind = c.item_laws.ensures.parts;
      through = c.xor_laws.ensures.goes_through;
      zeros = c.xor_laws.ensures.zeros;
      parts = c.xor_laws.ensures.parts;
      masked = c.shared_and_laws.ensures.masked;
      round = c.shared_and_laws.ensures.round;
      closed = c.order_laws.ensures.closed;
      identity = c.order_laws.ensures.identity;
      inverse = c.order_laws.ensures.inverse;
      composed = c.order_laws.ensures.applied;
    } in
    elim c.if-not-is_stopped.branch [
      | then-not-is_stopped+in_ok-run_step w ↦
          rw (w.machine-is, w.readers-is)
          (ahead_step g.T.Task.accepts g.T.Task.answer facts c.need_laws.ensures.parts g.met.T.Task.shaped whole m w.run_step.new.self s ss x (lefts w.run_step.new.tapes) ahead
          (sym c.is_stopped.ensures ∙ w.if-not-is_stopped.true) w.in_ok-run_step.ensures)
      | else-not-is_stopped w ↦
          rw (w.machine-is, w.readers-is)
          (ahead_stopped g.T.Task.accepts g.T.Task.answer whole m s ss x ahead (sym c.is_stopped.ensures ∙ w.if-not-is_stopped.false))
    ]

pub returns-clause-machine : goal.returns-clause-machine
returns-clause-machine g c =
    let list = c.args.list.now in
    let whole = joint_of g.T.Task.answer list c.args.slots.now (draws_of c.args.tapes.now) in
    let m = c.loop-step.machine in
    let x = lefts c.loop-step.readers in
    let e = c.deref-step-items.ensures.value ∙ c.steps.ensures.steps in
    let le = subst (λ xs. length xs ≤ c.loop-step.step-index) e c.loop-step-test.false in
    ahead_end g.T.Task.accepts g.T.Task.answer whole m x
    (subst (λ ss. IsAhead g.T.Task.accepts g.T.Task.answer whole ss m x) (drop_all c.loop-step.step-index list.steps le) c.loop-step.invariant)

pub returns-clause-opens : goal.returns-clause-opens
returns-clause-opens g c =
    let list = c.args.list.now in
    let ds = draws_of c.args.tapes.now in
    let facts : Facts = record {
      commutes = c.lane_laws.ensures.xor_commutes;
      associates = c.lane_laws.ensures.xor_associates;
      comes_off = c.lane_laws.ensures.mask_comes_off;
      not_of_one = c.lane_laws.ensures.not_of_one_share;
      pick = c.lane_laws.ensures.pick_of_xor;
      stay = c.lane_laws.ensures.words_stay;
      lengths = c.item_laws.ensures.lengths;
      behind = c.item_laws.ensures.parts;
      through = c.xor_laws.ensures.goes_through;
      zeros = c.xor_laws.ensures.zeros;
      parts = c.xor_laws.ensures.parts;
      masked = c.shared_and_laws.ensures.masked;
      round = c.shared_and_laws.ensures.round;
      closed = c.order_laws.ensures.closed;
      identity = c.order_laws.ensures.identity;
      inverse = c.order_laws.ensures.inverse;
      composed = c.order_laws.ensures.applied;
    } in
    shares_are_opened g.T.Task.accepts g.T.Task.answer facts list c.args.slots.now ds g.met.T.Task.shaped c.steps.ensures.well_formed
    (record {
      slots_fit = record { long = c.requires.slots; below = c.in_ok-machine.ensures.below };
      tapes_fit = λ p. fits_front (needs p (starting list.first) list.steps) (at p ds) (c.requires.tapes p);
    })
