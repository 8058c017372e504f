use Rattle.lanes.specs.Three.{at}
use Rattle.std.proofs.Common.{◌≡◌, ◌<◌, ◌∷◌, [], length, map, refl, sym, subst}
use Rattle.step_lists.specs.Draws.{parties, taken, dropped, needs_reveal, needs_steer}
use Rattle.step_lists.specs.Layout.{party_of, words_in_slot}
use Rattle.step_lists.specs.Machine.{const_share, delivered, machine_flag, slot_of, to_both, with_more_slots, with_shares}
use Rattle.step_lists.specs.Phases.{message}
use Rattle.joint_machine.specs.Left.{lefts, needs_share}
use Rattle.joint_machine.specs.Steps.{IsReveal, IsShared, IsSteer, rows_of_all}
use Rattle.joint_machine.specs.Stepping.{IsReady, IsStepped}
use Rattle.joint_machine.proofs.Arms.{ShareReady, RevealReady, SteerReady, WorkReady, FlagReady, ok_map, ok_both, quiet, lin_ready, and_ready, and_stepped, share_ready, share_stepped, reveal_ready, reveal_stepped, steer_ready, steer_stepped, tell_ready, work_ready, flag_ready}
use Rattle.joint_machine.proofs.machine.Machine.run_step.Goals as goal

pub push_lin-requires : goal.push_lin-requires
push_lin-requires g c =
    let m = c.args.self.now in
    let x = lefts c.args.tapes.now in
    let l = c.requires.0 in
    let v = c.in-Lin in
    let h = subst (λ s. IsReady g.T.Task.accepts c.requires.0 s c.args.self.now (lefts c.args.tapes.now)) c.in-Lin.is c.requires.1 in
    lin_ready g.T.Task.accepts g.T.Task.answer l m v.op x h

pub step_and-requires : goal.step_and-requires
step_and-requires g c =
    let m = c.args.self.now in
    let x = lefts c.args.tapes.now in
    let l = c.requires.0 in
    let v = c.in-And in
    let h = subst (λ s. IsReady g.T.Task.accepts c.requires.0 s c.args.self.now (lefts c.args.tapes.now)) c.in-And.is c.requires.1 in
    let r = and_ready g.T.Task.accepts g.T.Task.answer l m v.left v.right x h in
    record { made_left = r.made_left; made_right = r.made_right; left = r.rows_left; right = r.rows_right; draws = r.draws }

pub step_share-requires : goal.step_share-requires
step_share-requires g c =
    let m = c.args.self.now in
    let x = lefts c.args.tapes.now in
    let l = c.requires.0 in
    let v = c.in-Share in
    let h = subst (λ s. IsReady g.T.Task.accepts c.requires.0 s c.args.self.now (lefts c.args.tapes.now)) c.in-Share.is c.requires.1 in
    let r = subst (λ p. ShareReady m p v.slot (words_in_slot l (party_of v.party) v.slot) x) (sym c.party_of.ensures) (share_ready g.T.Task.accepts g.T.Task.answer l m v.party v.slot x h) in
    record { made = r.made; draws = r.draws }

pub step_reveal-requires : goal.step_reveal-requires
step_reveal-requires g c =
    let m = c.args.self.now in
    let x = lefts c.args.tapes.now in
    let l = c.requires.0 in
    let v = c.in-Reveal in
    let h = subst (λ s. IsReady g.T.Task.accepts c.requires.0 s c.args.self.now (lefts c.args.tapes.now)) c.in-Reveal.is c.requires.1 in
    let a = subst (λ moved. RevealReady l m moved v.shown x) (sym c.as_slice-in-Reveal.ensures.value) (reveal_ready g.T.Task.accepts g.T.Task.answer l m v.to v.moved v.shown x h) in
    let r = subst (λ shown. RevealReady l m c.as_slice-in-Reveal.result.now shown x) (sym c.as_slice-in-Reveal-2.ensures.value) a in
    record { some = r.are.some; made = r.are.made; rows = r.are.rows; shown = r.shows; draws = r.draws }

pub step_steer-requires : goal.step_steer-requires
step_steer-requires g c =
    let m = c.args.self.now in
    let x = lefts c.args.tapes.now in
    let l = c.requires.0 in
    let v = c.in-Steer in
    let h = subst (λ s. IsReady g.T.Task.accepts c.requires.0 s c.args.self.now (lefts c.args.tapes.now)) c.in-Steer.is c.requires.1 in
    let a = subst (λ moved. SteerReady l m (party_of v.by) v.slot moved x) (sym c.as_slice-in-Steer.ensures.value) (steer_ready g.T.Task.accepts g.T.Task.answer l m v.by v.slot v.moved x h) in
    let r = subst (λ p. SteerReady l m p v.slot c.as_slice-in-Steer.result.now x) (sym c.party_of-in-Steer.ensures) a in
    record { some = r.are.some; made = r.are.made; rows = r.are.rows; slot = r.made; order = r.order; long = r.long; draws = r.draws }

pub push_tell-requires : goal.push_tell-requires
push_tell-requires g c =
    let m = c.args.self.now in
    let x = lefts c.args.tapes.now in
    let l = c.requires.0 in
    let v = c.in-Tell in
    let h = subst (λ s. IsReady g.T.Task.accepts c.requires.0 s c.args.self.now (lefts c.args.tapes.now)) c.in-Tell.is c.requires.1 in
    subst (λ p. v.slot < length (at p m.slots)) (sym c.party_of-in-Tell.ensures) (tell_ready g.T.Task.accepts g.T.Task.answer l m v.source v.target v.slot x h)

pub push_work-requires : goal.push_work-requires
push_work-requires g c =
    let m = c.args.self.now in
    let x = lefts c.args.tapes.now in
    let l = c.requires.0 in
    let v = c.in-Work in
    let h = subst (λ s. IsReady g.T.Task.accepts c.requires.0 s c.args.self.now (lefts c.args.tapes.now)) c.in-Work.is c.requires.1 in
    let a = subst (λ takes. WorkReady g.T.Task.accepts m (party_of v.party) v.task takes) (sym c.as_slice-in-Work.ensures.value) (work_ready g.T.Task.accepts g.T.Task.answer l m v.party v.task v.takes v.gives x h) in
    let r = subst (λ p. WorkReady g.T.Task.accepts m p v.task c.as_slice-in-Work.result.now) (sym c.party_of-in-Work.ensures) a in
    record { made = r.made; input = r.input }

pub pass_flag-requires : goal.pass_flag-requires
pass_flag-requires g c =
    let m = c.args.self.now in
    let x = lefts c.args.tapes.now in
    let l = c.requires.0 in
    let v = c.in-Flag in
    let h = subst (λ s. IsReady g.T.Task.accepts c.requires.0 s c.args.self.now (lefts c.args.tapes.now)) c.in-Flag.is c.requires.1 in
    let r = subst (λ p. FlagReady m p v.slot) (sym c.party_of-in-Flag.ensures) (flag_ready g.T.Task.accepts g.T.Task.answer l m v.party v.slot x h) in
    record { made = r.made; one = r.one; few = r.few }

pub returns-in-Const : goal.returns-in-Const
returns-in-Const g c =
    let m = c.args.self.now in
    let x = lefts c.args.tapes.now in
    let new = c.push_const.new.self in
    let y = lefts c.args.tapes.now in
    let v = c.in-Const in
    ok_map c.push_const.result (λ made l h.
    let ready = subst (λ s. IsReady g.T.Task.accepts l s m x) c.in-Const.is h in
    subst (λ s. IsStepped g.T.Task.answer l s m x new y) (sym c.in-Const.is)
    (record { machine = quiet new _ (subst (λ ws. new ≡ with_shares m (parties (λ i. const_share i ws) ∷ [])) c.as_slice.ensures.value made); left = refl })) c.push_const.ensures

pub returns-in-Lin : goal.returns-in-Lin
returns-in-Lin g c =
    let m = c.args.self.now in
    let x = lefts c.args.tapes.now in
    let new = c.push_lin.new.self in
    let y = lefts c.args.tapes.now in
    let v = c.in-Lin in
    ok_map c.push_lin.result (λ made l h.
    let ready = subst (λ s. IsReady g.T.Task.accepts l s m x) c.in-Lin.is h in
    subst (λ s. IsStepped g.T.Task.answer l s m x new y) (sym c.in-Lin.is)
    (record { machine = quiet new _ made; left = refl })) c.push_lin.ensures

pub returns-in-And : goal.returns-in-And
returns-in-And g c =
    let m = c.args.self.now in
    let x = lefts c.args.tapes.now in
    let new = c.step_and.new.self in
    let y = lefts c.step_and.new.tapes in
    let v = c.in-And in
    ok_both c.step_and.result (λ made left l h.
    let ready = subst (λ s. IsReady g.T.Task.accepts l s m x) c.in-And.is h in
    subst (λ s. IsStepped g.T.Task.answer l s m x new y) (sym c.in-And.is)
    (and_stepped g.T.Task.accepts g.T.Task.answer l m v.left v.right x new y (and_ready g.T.Task.accepts g.T.Task.answer l m v.left v.right x ready).same made left)) c.step_and.ensures.machine c.step_and.ensures.left

pub returns-in-Share : goal.returns-in-Share
returns-in-Share g c =
    let m = c.args.self.now in
    let x = lefts c.args.tapes.now in
    let new = c.step_share.new.self in
    let y = lefts c.step_share.new.tapes in
    let v = c.in-Share in
    ok_both c.step_share.result (λ made left l h.
    let ready = subst (λ s. IsReady g.T.Task.accepts l s m x) c.in-Share.is h in
    subst (λ s. IsStepped g.T.Task.answer l s m x new y) (sym c.in-Share.is)
    (share_stepped g.T.Task.accepts g.T.Task.answer l m v.party v.slot x new y (share_ready g.T.Task.accepts g.T.Task.answer l m v.party v.slot x ready).same
    (subst (λ p. IsShared m p v.slot (taken (needs_share p (length (slot_of m p v.slot))) x) new) c.party_of.ensures made)
    (subst (λ p. y ≡ dropped (needs_share p (length (slot_of m p v.slot))) x) c.party_of.ensures left))) c.step_share.ensures.machine c.step_share.ensures.left

pub returns-in-Reveal : goal.returns-in-Reveal
returns-in-Reveal g c =
    let m = c.args.self.now in
    let x = lefts c.args.tapes.now in
    let new = c.step_reveal.new.self in
    let y = lefts c.step_reveal.new.tapes in
    let v = c.in-Reveal in
    ok_both c.step_reveal.result (λ made left l h.
    let ready = subst (λ s. IsReady g.T.Task.accepts l s m x) c.in-Reveal.is h in
    subst (λ s. IsStepped g.T.Task.answer l s m x new y) (sym c.in-Reveal.is)
    (reveal_stepped g.T.Task.accepts g.T.Task.answer l m v.to v.moved v.shown x new y (reveal_ready g.T.Task.accepts g.T.Task.answer l m v.to v.moved v.shown x ready).are.same
    (subst (λ p. IsReveal m (rows_of_all m v.moved) p v.moved v.shown (taken (needs_reveal (length v.moved) (rows_of_all m v.moved)) x) new) c.party_of-in-Reveal.ensures
    (subst (λ shown. IsReveal m (rows_of_all m v.moved) c.party_of-in-Reveal.result v.moved shown (taken (needs_reveal (length v.moved) (rows_of_all m v.moved)) x) new) c.as_slice-in-Reveal-2.ensures.value
    (subst (λ moved. IsReveal m (rows_of_all m moved) c.party_of-in-Reveal.result moved c.as_slice-in-Reveal-2.result.now (taken (needs_reveal (length moved) (rows_of_all m moved)) x) new)
    c.as_slice-in-Reveal.ensures.value made)))
    (subst (λ moved. y ≡ dropped (needs_reveal (length moved) (rows_of_all m moved)) x) c.as_slice-in-Reveal.ensures.value left))) c.step_reveal.ensures.machine c.step_reveal.ensures.left

pub returns-in-Steer : goal.returns-in-Steer
returns-in-Steer g c =
    let m = c.args.self.now in
    let x = lefts c.args.tapes.now in
    let new = c.step_steer.new.self in
    let y = lefts c.step_steer.new.tapes in
    let v = c.in-Steer in
    ok_both c.step_steer.result (λ made left l h.
    let ready = subst (λ s. IsReady g.T.Task.accepts l s m x) c.in-Steer.is h in
    subst (λ s. IsStepped g.T.Task.answer l s m x new y) (sym c.in-Steer.is)
    (steer_stepped g.T.Task.accepts g.T.Task.answer l m v.by v.slot v.moved x new y (steer_ready g.T.Task.accepts g.T.Task.answer l m v.by v.slot v.moved x ready).are.same
    (subst (λ p. IsSteer m (rows_of_all m v.moved) p (slot_of m p v.slot) v.moved (taken (needs_steer p (length v.moved) (rows_of_all m v.moved)) x) new) c.party_of-in-Steer.ensures
    (subst (λ moved. IsSteer m (rows_of_all m moved) c.party_of-in-Steer.result (slot_of m c.party_of-in-Steer.result v.slot) moved (taken (needs_steer c.party_of-in-Steer.result (length moved) (rows_of_all m moved)) x) new)
    c.as_slice-in-Steer.ensures.value made))
    (subst (λ p. y ≡ dropped (needs_steer p (length v.moved) (rows_of_all m v.moved)) x) c.party_of-in-Steer.ensures
    (subst (λ moved. y ≡ dropped (needs_steer c.party_of-in-Steer.result (length moved) (rows_of_all m moved)) x) c.as_slice-in-Steer.ensures.value left)))) c.step_steer.ensures.machine c.step_steer.ensures.left

pub returns-in-Tell : goal.returns-in-Tell
returns-in-Tell g c =
    let m = c.args.self.now in
    let x = lefts c.args.tapes.now in
    let new = c.push_tell.new.self in
    let y = lefts c.args.tapes.now in
    let v = c.in-Tell in
    ok_map c.push_tell.result (λ made l h.
    let ready = subst (λ s. IsReady g.T.Task.accepts l s m x) c.in-Tell.is h in
    subst (λ s. IsStepped g.T.Task.answer l s m x new y) (sym c.in-Tell.is)
    (record {
      machine =
          subst (λ q. new ≡ delivered (message (party_of v.source) q (slot_of m (party_of v.source) v.slot)) (with_more_slots m q (slot_of m (party_of v.source) v.slot ∷ []))) c.party_of-in-Tell-2.ensures
          (subst (λ p. new ≡ delivered (message p c.party_of-in-Tell-2.result (slot_of m p v.slot)) (with_more_slots m c.party_of-in-Tell-2.result (slot_of m p v.slot ∷ []))) c.party_of-in-Tell.ensures made);
      left = refl;
    })) c.push_tell.ensures

pub returns-in-Work : goal.returns-in-Work
returns-in-Work g c =
    let m = c.args.self.now in
    let x = lefts c.args.tapes.now in
    let new = c.push_work.new.self in
    let y = lefts c.args.tapes.now in
    let v = c.in-Work in
    ok_map c.push_work.result (λ made l h.
    let ready = subst (λ s. IsReady g.T.Task.accepts l s m x) c.in-Work.is h in
    subst (λ s. IsStepped g.T.Task.answer l s m x new y) (sym c.in-Work.is)
    (record {
      machine =
          quiet new _ (subst (λ p. new ≡ with_more_slots m p (g.T.Task.answer v.task (map (slot_of m p) v.takes))) c.party_of-in-Work.ensures
          (subst (λ takes. new ≡ with_more_slots m c.party_of-in-Work.result (g.T.Task.answer v.task (map (slot_of m c.party_of-in-Work.result) takes))) c.as_slice-in-Work.ensures.value made));
      left = refl;
    })) c.push_work.ensures

pub returns-in-Flag : goal.returns-in-Flag
returns-in-Flag g c =
    let m = c.args.self.now in
    let x = lefts c.args.tapes.now in
    let new = c.pass_flag.new.self in
    let y = lefts c.args.tapes.now in
    let v = c.in-Flag in
    ok_map c.pass_flag.result (λ made l h.
    let ready = subst (λ s. IsReady g.T.Task.accepts l s m x) c.in-Flag.is h in
    subst (λ s. IsStepped g.T.Task.answer l s m x new y) (sym c.in-Flag.is)
    (record {
      machine = subst (λ p. new ≡ delivered (to_both p (slot_of m p v.slot)) (machine_flag m (slot_of m p v.slot))) c.party_of-in-Flag.ensures made;
      left = refl;
    })) c.pass_flag.ensures
