use Rattle.std.proofs.Common.{◌≡◌, ℕ, ◌<◌, length, sym, subst, ap, ◌∙◌, inl, inr}
use Rattle.std.specs.Prelude.{slice_index}
use Rattle.lanes.specs.declared.party.Party.{Party}
use Rattle.lanes.specs.Party.{before}
use Rattle.lanes.specs.Three.{at}
use Rattle.step_lists.specs.Draws.{needs_of, needs_reveal, needs_steer, taken}
use Rattle.step_lists.specs.Layout.{party_of, rows_moved}
use Rattle.step_lists.specs.Machine.{slot_of}
use Rattle.step_lists.specs.Seen.{AreAlike, none, same_party}
use Rattle.step_lists.specs.Twin.{changed, twin_draws}
use Rattle.joint_machine.specs.Left.{AreNext, lefts}
use Rattle.joint_machine.specs.Steps.{rows_of_all}
use Rattle.twin.specs.Compared.{AreMovable, IsToldFault, IsWordsFault}
use Rattle.twin.specs.Passing.{AreReady, IsStepFault, shows}
use Rattle.twin.specs.Steered.{IsPrivate}
use Rattle.twin.proofs.Readied.{and_ready, share_ready, reveal_ready, steer_ready, tell_ready, flag_ready}
use Rattle.twin.proofs.Revealing.{ok_map}
use Rattle.twin.proofs.Choosing.{err_map, on_map, factors, movable, private_of, RevealChanged, reveal_changed, reveal_same, RevealFault, reveal_fault, steer_changed, tell_same, tell_fault, flag_fault, flag_same}
use Rattle.twin.proofs.worlds.Worlds.change_of.Goals as goal

pub and_change-requires-clause-one : goal.and_change-requires-clause-one
and_change-requires-clause-one g c =
    let v = c.args.viewer in
    let x = c.args.self.now.one in
    let y = c.args.self.now.other in
    let ds = lefts c.args.tapes.now in
    let s = c.in-And in
    let l = c.requires.0 in
    let h = subst (λ s. AreReady g.T.Task.accepts v l s x y ds) s.is c.requires.1 in
    let r = and_ready g.T.Task.accepts l x s.left s.right _ h.one in
    factors x s.left s.right _ _ r.rows_left.first r

pub and_change-requires-clause-other : goal.and_change-requires-clause-other
and_change-requires-clause-other g c =
    let v = c.args.viewer in
    let x = c.args.self.now.one in
    let y = c.args.self.now.other in
    let ds = lefts c.args.tapes.now in
    let s = c.in-And in
    let l = c.requires.0 in
    let h = subst (λ s. AreReady g.T.Task.accepts v l s x y ds) s.is c.requires.1 in
    let r = and_ready g.T.Task.accepts l x s.left s.right _ h.one in
    factors y s.left s.right _ _ r.rows_left.first (and_ready g.T.Task.accepts l y s.left s.right _ h.other)

pub share_change-requires-clause-one : goal.share_change-requires-clause-one
share_change-requires-clause-one g c =
    let v = c.args.viewer in
    let x = c.args.self.now.one in
    let y = c.args.self.now.other in
    let ds = lefts c.args.tapes.now in
    let s = c.in-Share in
    let l = c.requires.0 in
    let h = subst (λ s. AreReady g.T.Task.accepts v l s x y ds) s.is c.requires.1 in
    let r = share_ready g.T.Task.accepts l x s.party s.slot _ h.one in
    subst (λ (p : Party). s.slot < length (at p x.slots)) (sym c.party_of.ensures) r.made

pub share_change-requires-clause-other : goal.share_change-requires-clause-other
share_change-requires-clause-other g c =
    let v = c.args.viewer in
    let x = c.args.self.now.one in
    let y = c.args.self.now.other in
    let ds = lefts c.args.tapes.now in
    let s = c.in-Share in
    let l = c.requires.0 in
    let h = subst (λ s. AreReady g.T.Task.accepts v l s x y ds) s.is c.requires.1 in
    let r = share_ready g.T.Task.accepts l y s.party s.slot _ h.other in
    subst (λ (p : Party). s.slot < length (at p y.slots)) (sym c.party_of.ensures) r.made

pub share_change-requires-clause-long : goal.share_change-requires-clause-long
share_change-requires-clause-long g c =
    let v = c.args.viewer in
    let x = c.args.self.now.one in
    let y = c.args.self.now.other in
    let ds = lefts c.args.tapes.now in
    let s = c.in-Share in
    let l = c.requires.0 in
    let h = subst (λ s. AreReady g.T.Task.accepts v l s x y ds) s.is c.requires.1 in
    let r = share_ready g.T.Task.accepts l x s.party s.slot _ h.one in
    let t = share_ready g.T.Task.accepts l y s.party s.slot _ h.other in
    subst (λ (p : Party). length (slot_of x p s.slot) ≡ length (slot_of y p s.slot)) (sym c.party_of.ensures) (r.long ∙ sym t.long)

pub reveal_change-requires-clause-movable : goal.reveal_change-requires-clause-movable
reveal_change-requires-clause-movable g c =
    let v = c.args.viewer in
    let x = c.args.self.now.one in
    let y = c.args.self.now.other in
    let ds = lefts c.args.tapes.now in
    let s = c.in-Reveal in
    let l = c.requires.0 in
    let h = subst (λ s. AreReady g.T.Task.accepts v l s x y ds) s.is c.requires.1 in
    let r = reveal_ready g.T.Task.accepts l x s.to s.moved s.shown _ h.one in
    let t = reveal_ready g.T.Task.accepts l y s.to s.moved s.shown _ h.other in
    subst (λ moved. AreMovable x y (rows_of_all x moved) moved) (sym c.as_slice.ensures.value) (movable l x y s.moved h.short r.are t.are)

pub reveal_change-requires-clause-shown : goal.reveal_change-requires-clause-shown
reveal_change-requires-clause-shown g c =
    let v = c.args.viewer in
    let x = c.args.self.now.one in
    let y = c.args.self.now.other in
    let ds = lefts c.args.tapes.now in
    let s = c.in-Reveal in
    let l = c.requires.0 in
    let h = subst (λ s. AreReady g.T.Task.accepts v l s x y ds) s.is c.requires.1 in
    let r = reveal_ready g.T.Task.accepts l x s.to s.moved s.shown _ h.one in
    subst (λ moved. (k : ℕ) → k < length c.as_slice-in-Reveal.result.now → slice_index c.as_slice-in-Reveal.result.now k < length moved) (sym c.as_slice.ensures.value)
    (subst (λ shown. (k : ℕ) → k < length shown → slice_index shown k < length s.moved) (sym c.as_slice-in-Reveal.ensures.value) r.shows)

pub reveal_change-requires-clause-draws : goal.reveal_change-requires-clause-draws
reveal_change-requires-clause-draws g c =
    let v = c.args.viewer in
    let x = c.args.self.now.one in
    let y = c.args.self.now.other in
    let ds = lefts c.args.tapes.now in
    let s = c.in-Reveal in
    let l = c.requires.0 in
    let h = subst (λ s. AreReady g.T.Task.accepts v l s x y ds) s.is c.requires.1 in
    let r = reveal_ready g.T.Task.accepts l x s.to s.moved s.shown _ h.one in
    subst (λ moved. AreNext (needs_reveal (length moved) (rows_of_all x moved)) ds) (sym c.as_slice.ensures.value)
    (subst (λ n. AreNext (needs_reveal (length s.moved) n) ds) (sym r.are.same) h.one.draws)

pub steer_change-requires-clause-movable : goal.steer_change-requires-clause-movable
steer_change-requires-clause-movable g c =
    let v = c.args.viewer in
    let x = c.args.self.now.one in
    let y = c.args.self.now.other in
    let ds = lefts c.args.tapes.now in
    let s = c.in-Steer in
    let l = c.requires.0 in
    let h = subst (λ s. AreReady g.T.Task.accepts v l s x y ds) s.is c.requires.1 in
    let r = steer_ready g.T.Task.accepts l x s.by s.slot s.moved _ h.one in
    let t = steer_ready g.T.Task.accepts l y s.by s.slot s.moved _ h.other in
    subst (λ moved. AreMovable x y (rows_of_all x moved) moved) (sym c.as_slice-in-Steer.ensures.value) (movable l x y s.moved h.short r.are t.are)

pub steer_change-requires-clause-one : goal.steer_change-requires-clause-one
steer_change-requires-clause-one g c =
    let v = c.args.viewer in
    let x = c.args.self.now.one in
    let y = c.args.self.now.other in
    let ds = lefts c.args.tapes.now in
    let s = c.in-Steer in
    let l = c.requires.0 in
    let h = subst (λ s. AreReady g.T.Task.accepts v l s x y ds) s.is c.requires.1 in
    let r = steer_ready g.T.Task.accepts l x s.by s.slot s.moved _ h.one in
    let t = steer_ready g.T.Task.accepts l x s.by s.slot s.moved _ h.one in
    subst (λ moved. IsPrivate x c.party_of-in-Steer.result s.slot (rows_of_all x moved)) (sym c.as_slice-in-Steer.ensures.value)
    (subst (λ (p : Party). IsPrivate x p s.slot (rows_of_all x s.moved)) (sym c.party_of-in-Steer.ensures) (private_of l x (party_of s.by) s.slot s.moved (rows_of_all x s.moved) r.are.same t))

pub steer_change-requires-clause-other : goal.steer_change-requires-clause-other
steer_change-requires-clause-other g c =
    let v = c.args.viewer in
    let x = c.args.self.now.one in
    let y = c.args.self.now.other in
    let ds = lefts c.args.tapes.now in
    let s = c.in-Steer in
    let l = c.requires.0 in
    let h = subst (λ s. AreReady g.T.Task.accepts v l s x y ds) s.is c.requires.1 in
    let r = steer_ready g.T.Task.accepts l x s.by s.slot s.moved _ h.one in
    let t = steer_ready g.T.Task.accepts l y s.by s.slot s.moved _ h.other in
    subst (λ moved. IsPrivate y c.party_of-in-Steer.result s.slot (rows_of_all x moved)) (sym c.as_slice-in-Steer.ensures.value)
    (subst (λ (p : Party). IsPrivate y p s.slot (rows_of_all x s.moved)) (sym c.party_of-in-Steer.ensures) (private_of l y (party_of s.by) s.slot s.moved (rows_of_all x s.moved) r.are.same t))

pub steer_change-requires-clause-draws : goal.steer_change-requires-clause-draws
steer_change-requires-clause-draws g c =
    let v = c.args.viewer in
    let x = c.args.self.now.one in
    let y = c.args.self.now.other in
    let ds = lefts c.args.tapes.now in
    let s = c.in-Steer in
    let l = c.requires.0 in
    let h = subst (λ s. AreReady g.T.Task.accepts v l s x y ds) s.is c.requires.1 in
    let r = steer_ready g.T.Task.accepts l x s.by s.slot s.moved _ h.one in
    subst (λ moved. AreNext (needs_steer c.party_of-in-Steer.result (length moved) (rows_of_all x moved)) ds) (sym c.as_slice-in-Steer.ensures.value)
    (subst (λ (p : Party). AreNext (needs_steer p (length s.moved) (rows_of_all x s.moved)) ds) (sym c.party_of-in-Steer.ensures)
    (subst (λ n. AreNext (needs_steer (party_of s.by) (length s.moved) n) ds) (sym r.are.same) h.one.draws))

pub tell_change-requires-clause-one : goal.tell_change-requires-clause-one
tell_change-requires-clause-one g c =
    let v = c.args.viewer in
    let x = c.args.self.now.one in
    let y = c.args.self.now.other in
    let ds = lefts c.args.tapes.now in
    let s = c.in-Tell in
    let l = c.requires.0 in
    let h = subst (λ s. AreReady g.T.Task.accepts v l s x y ds) s.is c.requires.1 in
    subst (λ (p : Party). s.slot < length (at p x.slots)) (sym c.party_of-in-Tell-2.ensures) (tell_ready g.T.Task.accepts l x s.source s.target s.slot _ h.one)

pub tell_change-requires-clause-other : goal.tell_change-requires-clause-other
tell_change-requires-clause-other g c =
    let v = c.args.viewer in
    let x = c.args.self.now.one in
    let y = c.args.self.now.other in
    let ds = lefts c.args.tapes.now in
    let s = c.in-Tell in
    let l = c.requires.0 in
    let h = subst (λ s. AreReady g.T.Task.accepts v l s x y ds) s.is c.requires.1 in
    subst (λ (p : Party). s.slot < length (at p y.slots)) (sym c.party_of-in-Tell-2.ensures) (tell_ready g.T.Task.accepts l y s.source s.target s.slot _ h.other)

pub compare_slots-requires-clause-one : goal.compare_slots-requires-clause-one
compare_slots-requires-clause-one g c =
    let v = c.args.viewer in
    let x = c.args.self.now.one in
    let y = c.args.self.now.other in
    let ds = lefts c.args.tapes.now in
    let s = c.in-Flag in
    let l = c.requires.0 in
    let h = subst (λ s. AreReady g.T.Task.accepts v l s x y ds) s.is c.requires.1 in
    subst (λ (p : Party). s.slot < length (at p x.slots)) (sym c.party_of-in-Flag.ensures) (flag_ready g.T.Task.accepts l x s.party s.slot _ h.one)

pub compare_slots-requires-clause-other : goal.compare_slots-requires-clause-other
compare_slots-requires-clause-other g c =
    let v = c.args.viewer in
    let x = c.args.self.now.one in
    let y = c.args.self.now.other in
    let ds = lefts c.args.tapes.now in
    let s = c.in-Flag in
    let l = c.requires.0 in
    let h = subst (λ s. AreReady g.T.Task.accepts v l s x y ds) s.is c.requires.1 in
    subst (λ (p : Party). s.slot < length (at p y.slots)) (sym c.party_of-in-Flag.ensures) (flag_ready g.T.Task.accepts l y s.party s.slot _ h.other)

pub returns-in_ok-and_change-in-And-clause-alike : goal.returns-in_ok-and_change-in-And-clause-alike
returns-in_ok-and_change-in-And-clause-alike g c l h =
    let v = c.args.viewer in
    let x = c.args.self.now.one in
    let y = c.args.self.now.other in
    let ds = lefts c.args.tapes.now in
    let s = c.in-And in
    subst (λ s. AreAlike (shows v l x s) (shows v l y s)) (sym s.is) none

pub returns-in_ok-share_change-in-Share-clause-alike : goal.returns-in_ok-share_change-in-Share-clause-alike
returns-in_ok-share_change-in-Share-clause-alike g c l h =
    let v = c.args.viewer in
    let x = c.args.self.now.one in
    let y = c.args.self.now.other in
    let ds = lefts c.args.tapes.now in
    let s = c.in-Share in
    subst (λ s. AreAlike (shows v l x s) (shows v l y s)) (sym s.is) none

pub returns-in_ok-steer_change-in-Steer-clause-alike : goal.returns-in_ok-steer_change-in-Steer-clause-alike
returns-in_ok-steer_change-in-Steer-clause-alike g c l h =
    let v = c.args.viewer in
    let x = c.args.self.now.one in
    let y = c.args.self.now.other in
    let ds = lefts c.args.tapes.now in
    let s = c.in-Steer in
    subst (λ s. AreAlike (shows v l x s) (shows v l y s)) (sym s.is) none

pub returns-in-Reveal-clause-change : goal.returns-in-Reveal-clause-change
returns-in-Reveal-clause-change g c =
    let v = c.args.viewer in
    let x = c.args.self.now.one in
    let y = c.args.self.now.other in
    let ds = lefts c.args.tapes.now in
    let s = c.in-Reveal in
    ok_map (λ change. RevealChanged v x y ds change.order change.words.items c.party_of-in-Reveal.result c.as_slice.result.now c.as_slice-in-Reveal.result.now (rows_of_all x c.as_slice.result.now)) _ c.reveal_change.result
    (λ change e l h.
    let r = reveal_ready g.T.Task.accepts l x s.to s.moved s.shown _ (subst (λ s. AreReady g.T.Task.accepts v l s x y ds) s.is h).one in
    subst (λ s. changed change.order change.words.items (at (before v) (taken (needs_of l s) ds)) ≡ twin_draws v l x y s (taken (needs_of l s) ds)) (sym s.is)
    (reveal_changed v x y ds change.order change.words.items (party_of s.to) c.party_of-in-Reveal.result s.moved c.as_slice.result.now s.shown c.as_slice-in-Reveal.result.now (rows_moved l s.moved)
    c.party_of-in-Reveal.ensures c.as_slice.ensures.value c.as_slice-in-Reveal.ensures.value r.are.same e))
    c.reveal_change.ensures.change

pub returns-in-Reveal-clause-alike : goal.returns-in-Reveal-clause-alike
returns-in-Reveal-clause-alike g c =
    let v = c.args.viewer in
    let x = c.args.self.now.one in
    let y = c.args.self.now.other in
    let ds = lefts c.args.tapes.now in
    let s = c.in-Reveal in
    on_map c.reveal_change.result
    (λ e l h.
    let r = reveal_ready g.T.Task.accepts l x s.to s.moved s.shown _ (subst (λ s. AreReady g.T.Task.accepts v l s x y ds) s.is h).one in
    subst (λ s. AreAlike (shows v l x s) (shows v l y s)) (sym s.is)
    (reveal_same v x y (party_of s.to) c.party_of-in-Reveal.result s.moved c.as_slice.result.now s.shown c.as_slice-in-Reveal.result.now (rows_moved l s.moved)
    c.party_of-in-Reveal.ensures c.as_slice.ensures.value c.as_slice-in-Reveal.ensures.value r.are.same e))
    c.reveal_change.ensures.same

pub returns-in-Reveal-clause-fault : goal.returns-in-Reveal-clause-fault
returns-in-Reveal-clause-fault g c =
    let v = c.args.viewer in
    let x = c.args.self.now.one in
    let y = c.args.self.now.other in
    let ds = lefts c.args.tapes.now in
    let s = c.in-Reveal in
    err_map (λ fault. RevealFault v c.args.number x y fault c.party_of-in-Reveal.result c.as_slice.result.now c.as_slice-in-Reveal.result.now (rows_of_all x c.as_slice.result.now)) _ c.reveal_change.result
    (λ fault e l h.
    let r = reveal_ready g.T.Task.accepts l x s.to s.moved s.shown _ (subst (λ s. AreReady g.T.Task.accepts v l s x y ds) s.is h).one in
    subst (λ s. IsStepFault v l s x y c.args.number fault) (sym s.is)
    (reveal_fault _ v c.args.number l x y s.to c.party_of-in-Reveal.result s.moved c.as_slice.result.now s.shown c.as_slice-in-Reveal.result.now fault
    c.party_of-in-Reveal.ensures c.as_slice.ensures.value c.as_slice-in-Reveal.ensures.value r.are.same e))
    c.reveal_change.ensures.fault

pub returns-in_ok-steer_change-in-Steer-clause-change : goal.returns-in_ok-steer_change-in-Steer-clause-change
returns-in_ok-steer_change-in-Steer-clause-change g c l h =
    let v = c.args.viewer in
    let x = c.args.self.now.one in
    let y = c.args.self.now.other in
    let ds = lefts c.args.tapes.now in
    let s = c.in-Steer in
    let r = steer_ready g.T.Task.accepts l x s.by s.slot s.moved _ (subst (λ s. AreReady g.T.Task.accepts v l s x y ds) s.is h).one in
    let change = c.in_ok-steer_change-in-Steer.field-0 in
    subst (λ s. changed change.order change.words.items (at (before v) (taken (needs_of l s) ds)) ≡ twin_draws v l x y s (taken (needs_of l s) ds)) (sym s.is)
    (steer_changed v x y ds change.order change.words.items (party_of s.by) c.party_of-in-Steer.result s.slot s.moved c.as_slice-in-Steer.result.now (rows_moved l s.moved)
    c.party_of-in-Steer.ensures c.as_slice-in-Steer.ensures.value r.are.same c.in_ok-steer_change-in-Steer.ensures)

pub returns-in-Tell-clause-alike : goal.returns-in-Tell-clause-alike
returns-in-Tell-clause-alike g c =
    let v = c.args.viewer in
    let x = c.args.self.now.one in
    let y = c.args.self.now.other in
    let ds = lefts c.args.tapes.now in
    let s = c.in-Tell in
    on_map c.tell_change.result
    (λ e l h.
    subst (λ s. AreAlike (shows v l x s) (shows v l y s)) (sym s.is)
    (tell_same v x y (party_of s.source) c.party_of-in-Tell-2.result (party_of s.target) s.slot c.is_same-told.result c.party_of-in-Tell-2.ensures (c.is_same-told.ensures ∙ ap (same_party v) c.party_of-in-Tell.ensures) e))
    c.tell_change.ensures.same

pub returns-in-Tell-clause-fault : goal.returns-in-Tell-clause-fault
returns-in-Tell-clause-fault g c =
    let v = c.args.viewer in
    let x = c.args.self.now.one in
    let y = c.args.self.now.other in
    let ds = lefts c.args.tapes.now in
    let s = c.in-Tell in
    err_map (λ fault. IsToldFault c.args.number c.is_same-told.result (slot_of x c.party_of-in-Tell-2.result s.slot) (slot_of y c.party_of-in-Tell-2.result s.slot) fault) _ c.tell_change.result
    (λ fault e l h.
    subst (λ s. IsStepFault v l s x y c.args.number fault) (sym s.is)
    (tell_fault _ v c.args.number l x y s.source s.target s.slot c.party_of-in-Tell-2.result c.is_same-told.result fault c.party_of-in-Tell-2.ensures (c.is_same-told.ensures ∙ ap (same_party v) c.party_of-in-Tell.ensures) e))
    c.tell_change.ensures.fault

pub returns-in-Flag-clause-alike : goal.returns-in-Flag-clause-alike
returns-in-Flag-clause-alike g c =
    let v = c.args.viewer in
    let x = c.args.self.now.one in
    let y = c.args.self.now.other in
    let ds = lefts c.args.tapes.now in
    let s = c.in-Flag in
    on_map c.compare_slots.result
    (λ e l h. subst (λ s. AreAlike (shows v l x s) (shows v l y s)) (sym s.is) (flag_same x y (party_of s.party) c.party_of-in-Flag.result s.slot c.party_of-in-Flag.ensures e))
    c.compare_slots.ensures.same

pub returns-in-Flag-clause-fault : goal.returns-in-Flag-clause-fault
returns-in-Flag-clause-fault g c =
    let v = c.args.viewer in
    let x = c.args.self.now.one in
    let y = c.args.self.now.other in
    let ds = lefts c.args.tapes.now in
    let s = c.in-Flag in
    err_map (λ fault. IsWordsFault c.args.number (slot_of x c.party_of-in-Flag.result s.slot) (slot_of y c.party_of-in-Flag.result s.slot) fault) _ c.compare_slots.result
    (λ fault e l h. subst (λ s. IsStepFault v l s x y c.args.number fault) (sym s.is) (flag_fault _ v c.args.number l x y s.party s.slot c.party_of-in-Flag.result fault c.party_of-in-Flag.ensures e))
    c.compare_slots.ensures.fault

pub returns-in_ok-none-in-Const-clause-alike : goal.returns-in_ok-none-in-Const-clause-alike
returns-in_ok-none-in-Const-clause-alike g c l h =
    let v = c.args.viewer in
    let x = c.args.self.now.one in
    let y = c.args.self.now.other in
    elim c.in-Const.is [
      | inl e ↦ subst (λ s. AreAlike (shows v l x s) (shows v l y s)) (sym e.1) none
      | inr r ↦
          elim r [
            | inl e ↦ subst (λ s. AreAlike (shows v l x s) (shows v l y s)) (sym e.1) none
            | inr e ↦ subst (λ s. AreAlike (shows v l x s) (shows v l y s)) (sym e.4) none
          ]
    ]
