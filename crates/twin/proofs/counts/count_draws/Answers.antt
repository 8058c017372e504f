use Rattle.std.proofs.Common.{◌≡◌, ◌<◌, IfOk, Ok, Err, Result, length, sym, subst, ap, ◌∙◌}
use Rattle.lanes.specs.Three.{at, each}
use Rattle.step_lists.specs.Draws.{needs_each, needs_of, needs_reveal, needs_steer}
use Rattle.step_lists.specs.Layout.{party_of, rows_moved, words_in_slot}
use Rattle.step_lists.specs.Machine.{slot_of}
use Rattle.joint_machine.specs.Left.{needs_share}
use Rattle.joint_machine.specs.Ready.{IsMade}
use Rattle.joint_machine.specs.Steps.{rows_of_all}
use Rattle.joint_machine.specs.Stepping.{IsReady}
use Rattle.std.specs.Prelude.{slice_index}
use Rattle.twin.proofs.Readied.{and_ready, share_ready, reveal_ready, steer_ready, each_count}
use Rattle.twin.proofs.counts.count_draws.Goals as goal

ok_map : {A E : Type 0} (P Q : A → Type 0) (r : Result A E) → ((a : A) → P a → Q a) → IfOk r P → IfOk r Q
ok_map P Q (Ok a) f h = f a h
ok_map P Q (Err e) f h = tt

pub rows_in-count-requires : goal.rows_in-count-requires
rows_in-count-requires g c =
    let m = c.args.machine.now in
    let l = c.requires.0 in
    let ds = c.requires.1.0 in
    let v = c.in-And in
    let h = subst (λ s. IsReady g.T.Task.accepts l s m ds) v.is c.requires.1.1 in
    (and_ready g.T.Task.accepts l m v.left v.right ds h).made_left

pub words_in-requires : goal.words_in-requires
words_in-requires g c =
    let m = c.args.machine.now in
    let l = c.requires.0 in
    let ds = c.requires.1.0 in
    let v = c.in-Share in
    let h = subst (λ s. IsReady g.T.Task.accepts l s m ds) v.is c.requires.1.1 in
    subst (λ p. v.slot < length (at p m.slots)) (sym c.party_of-party.ensures) (share_ready g.T.Task.accepts l m v.party v.slot ds h).made

pub rows_in-requires : goal.rows_in-requires
rows_in-requires g c =
    let m = c.args.machine.now in
    let l = c.requires.0 in
    let ds = c.requires.1.0 in
    let v = c.in-Reveal in
    let h = subst (λ s. IsReady g.T.Task.accepts l s m ds) v.is c.requires.1.1 in
    let r = (reveal_ready g.T.Task.accepts l m v.to v.moved v.shown ds h).are in
    subst (λ xs. IsMade m (slice_index xs 0)) (sym c.as_slice-moved.ensures.value) (r.made 0 r.some)

pub rows_in-requires-in-Steer : goal.rows_in-requires-in-Steer
rows_in-requires-in-Steer g c =
    let m = c.args.machine.now in
    let l = c.requires.0 in
    let ds = c.requires.1.0 in
    let v = c.in-Steer in
    let h = subst (λ s. IsReady g.T.Task.accepts l s m ds) v.is c.requires.1.1 in
    let r = (steer_ready g.T.Task.accepts l m v.by v.slot v.moved ds h).are in
    subst (λ xs. IsMade m (slice_index xs 0)) (sym c.as_slice-moved-in-Steer.ensures.value) (r.made 0 r.some)

pub returns-in-And : goal.returns-in-And
returns-in-And g c l ds h =
    let m = c.args.machine.now in
    let v = c.in-And in
    let r = and_ready g.T.Task.accepts l m v.left v.right ds (subst (λ s. IsReady g.T.Task.accepts l s m ds) v.is h) in
    let n = c.rows_in-count.ensures ∙ r.rows_left.first in
    sym (ap (λ s. each length (needs_of l s)) v.is ∙ (ap (λ n. each length (needs_each n)) (sym n) ∙ each_count c.rows_in-count.result))

pub returns-in-Share : goal.returns-in-Share
returns-in-Share g c l ds h =
    let m = c.args.machine.now in
    let v = c.in-Share in
    let p = party_of v.party in
    let r = share_ready g.T.Task.accepts l m v.party v.slot ds (subst (λ s. IsReady g.T.Task.accepts l s m ds) v.is h) in
    c.count_share.ensures
    ∙ (ap (λ n. each length (needs_share c.party_of-party.result n)) (c.words_in.ensures ∙ (ap (λ p. length (slot_of m p v.slot)) c.party_of-party.ensures ∙ r.long))
    ∙ (ap (λ p. each length (needs_share p (words_in_slot l (party_of v.party) v.slot))) c.party_of-party.ensures
    ∙ sym (ap (λ s. each length (needs_of l s)) v.is)))

pub returns-in-Reveal : goal.returns-in-Reveal
returns-in-Reveal g c =
    let m = c.args.machine.now in
    let v = c.in-Reveal in
    let xs = c.as_slice-moved.result.now in
    let n0 = c.rows_in.result in
    ok_map (λ counts. counts ≡ each length (needs_reveal (length xs) n0)) _ c.count_reveal.result (λ counts e l ds h.
    let r = (reveal_ready g.T.Task.accepts l m v.to v.moved v.shown ds (subst (λ s. IsReady g.T.Task.accepts l s m ds) v.is h)).are in
    let n = c.rows_in.ensures ∙ (ap (rows_of_all m) c.as_slice-moved.ensures.value ∙ r.same) in
    e ∙ (ap (λ n. each length (needs_reveal (length xs) n)) n ∙ (ap (λ ys. each length (needs_reveal (length ys) (rows_moved l v.moved))) c.as_slice-moved.ensures.value
    ∙ sym (ap (λ s. each length (needs_of l s)) v.is)))) c.count_reveal.ensures

pub returns-in-Steer : goal.returns-in-Steer
returns-in-Steer g c =
    let m = c.args.machine.now in
    let v = c.in-Steer in
    let p = c.party_of.result in
    let xs = c.as_slice-moved-in-Steer.result.now in
    let n0 = c.rows_in-in-Steer.result in
    ok_map (λ counts. counts ≡ each length (needs_steer p (length xs) n0)) _ c.count_steer.result (λ counts e l ds h.
    let r = (steer_ready g.T.Task.accepts l m v.by v.slot v.moved ds (subst (λ s. IsReady g.T.Task.accepts l s m ds) v.is h)).are in
    let n = c.rows_in-in-Steer.ensures ∙ (ap (rows_of_all m) c.as_slice-moved-in-Steer.ensures.value ∙ r.same) in
    e ∙ (ap (λ n. each length (needs_steer p (length xs) n)) n ∙ (ap (λ ys. each length (needs_steer p (length ys) (rows_moved l v.moved))) c.as_slice-moved-in-Steer.ensures.value
    ∙ (ap (λ p. each length (needs_steer p (length v.moved) (rows_moved l v.moved))) c.party_of.ensures
    ∙ sym (ap (λ s. each length (needs_of l s)) v.is))))) c.count_steer.ensures
