use Rattle.std.proofs.Common.{◌≡◌, ◌+◌, ◌-◌, ◌≤◌, ◌++◌, length, take, drop, sym, subst, ap, ◌∙◌, arith}
use Rattle.lanes.specs.declared.party.Party.{Party}
use Rattle.lanes.specs.Party.{before}
use Rattle.lanes.specs.Three.{at, put, each}
use Rattle.step_lists.specs.Draws.{needs_of, taken}
use Rattle.step_lists.specs.Twin.{changed, twin_draws}
use Rattle.joint_machine.specs.Left.{draws_of, lefts}
use Rattle.joint_machine.specs.Stepping.{IsReady, IsStepped}
use Rattle.step_lists.specs.Seen.{AreAlike}
use Rattle.twin.specs.Passing.{AreReady, left_at, shows, stepped}
use Rattle.twin.proofs.Stepping.{within, left_behind_step, unseen_draws, taken_put, made_last}
use Rattle.twin.proofs.pass.Pass.take_step.Goals as goal

pub advance-places-requires : goal.advance-places-requires
advance-places-requires g c =
    let v = c.args.viewer in
    let s = c.args.step.now in
    let x = c.args.self.now.worlds.one in
    let y = c.args.self.now.worlds.other in
    let places = c.args.self.now.places in
    let ds = draws_of c.args.tapes.now in
    let left = left_at places ds in
    let l = c.requires.ready.0 in
    let h = c.requires.ready.1 in
    within (needs_of l s) places c.in_ok-counts.counts ds (c.in_ok-counts.ensures l left h.one) h.one.draws c.requires.within

pub push_changed-requires-clause-to : goal.push_changed-requires-clause-to
push_changed-requires-clause-to g c =
    let v = c.args.viewer in
    let s = c.args.step.now in
    let x = c.args.self.now.worlds.one in
    let y = c.args.self.now.worlds.other in
    let places = c.args.self.now.places in
    let ds = draws_of c.args.tapes.now in
    let left = left_at places ds in
    let l = c.requires.ready.0 in
    let h = c.requires.ready.1 in
    let fits = within (needs_of l s) places c.in_ok-counts.counts ds (c.in_ok-counts.ensures l left h.one) h.one.draws c.requires.within c.before-unseen.result in
    let to = c.at-2.ensures ∙ c.advance-places.ensures c.before-unseen.result in
    subst (λ tape. c.at-2.result.now ≤ length tape) (sym c.tape_of.ensures) (omega arith)

pub run_step-requires-2 : goal.run_step-requires-2
run_step-requires-2 g c =
    let v = c.args.viewer in
    let s = c.args.step.now in
    let x = c.args.self.now.worlds.one in
    let y = c.args.self.now.worlds.other in
    let places = c.args.self.now.places in
    let ds = draws_of c.args.tapes.now in
    let left = left_at places ds in
    let l = c.requires.ready.0 in
    let h = c.requires.ready.1 in
    let ns = needs_of l s in
    let counts : c.in_ok-counts.counts ≡ each length ns = c.in_ok-counts.ensures l left h.one in
    let t = twin_draws v l x y s (taken ns left) in
    let change = c.in_ok-change.change in
    let u : c.before-unseen.result ≡ before v = c.before-unseen.ensures in
    let is : changed change.order change.words.items (at (before v) (taken ns left)) ≡ t =
    subst (λ z. AreReady g.T.Task.accepts v l s x y z → changed change.order change.words.items (at (before v) (taken ns z)) ≡ twin_draws v l x y s (taken ns z)) c.readers_at-readers.ensures
    (c.in_ok-change.ensures.change l) h in
    let from : c.at.result.now ≡ at (before v) places = c.at.ensures ∙ ap (λ (p : Party). at p places) u in
    let to : c.at-2.result.now ≡ at (before v) places + at (before v) c.in_ok-counts.counts = c.at-2.ensures ∙ (ap (λ (p : Party). at p c.advance-places.result) u ∙ c.advance-places.ensures (before v)) in
    let tape : c.tape_of.result.now ≡ at (before v) ds = c.tape_of.ensures ∙ ap (λ (p : Party). at p ds) u in
    let drawn : take (c.at-2.result.now - c.at.result.now) (drop c.at.result.now c.tape_of.result.now) ≡ at (before v) (taken ns left) =
    ap (λ z. take (c.at-2.result.now - c.at.result.now) (drop c.at.result.now z)) tape ∙ unseen_draws (before v) ns places c.in_ok-counts.counts ds c.at.result.now c.at-2.result.now counts from to in
    let made : c.push_changed.new.made ≡ c.args.self.now.made ++ t =
    c.in_ok-push_changed.ensures
    ∙ ap (λ z. c.args.self.now.made ++ z) (ap (λ w. changed change.order w (take (c.at-2.result.now - c.at.result.now) (drop c.at.result.now c.tape_of.result.now))) c.deref.ensures.value
    ∙ (ap (changed change.order change.words.items) drawn ∙ is)) in
    let others : lefts c.readers_with-others.result ≡ put (before v) t left =
    c.readers_with-others.ensures
    ∙ (ap (λ (p : Party). put p (drop c.len-place.result c.push_changed.new.made) left) u
    ∙ ap (λ z. put (before v) z left) (made_last c.args.self.now.made t c.push_changed.new.made c.len-place.result c.len-place.ensures.value made)) in
    (l, subst (IsReady g.T.Task.accepts l s y) (sym others) h.other)

pub returns-clause-passed : goal.returns-clause-passed
returns-clause-passed g c l h =
    let v = c.args.viewer in
    let s = c.args.step.now in
    let x = c.args.self.now.worlds.one in
    let y = c.args.self.now.worlds.other in
    let places = c.args.self.now.places in
    let ds = draws_of c.args.tapes.now in
    let left = left_at places ds in
    let ns = needs_of l s in
    let counts : c.in_ok-counts.counts ≡ each length ns = c.in_ok-counts.ensures l left h.one in
    let t = twin_draws v l x y s (taken ns left) in
    let change = c.in_ok-change.change in
    let u : c.before-unseen.result ≡ before v = c.before-unseen.ensures in
    let is : changed change.order change.words.items (at (before v) (taken ns left)) ≡ t =
    subst (λ z. AreReady g.T.Task.accepts v l s x y z → changed change.order change.words.items (at (before v) (taken ns z)) ≡ twin_draws v l x y s (taken ns z)) c.readers_at-readers.ensures
    (c.in_ok-change.ensures.change l) h in
    let from : c.at.result.now ≡ at (before v) places = c.at.ensures ∙ ap (λ (p : Party). at p places) u in
    let to : c.at-2.result.now ≡ at (before v) places + at (before v) c.in_ok-counts.counts = c.at-2.ensures ∙ (ap (λ (p : Party). at p c.advance-places.result) u ∙ c.advance-places.ensures (before v)) in
    let tape : c.tape_of.result.now ≡ at (before v) ds = c.tape_of.ensures ∙ ap (λ (p : Party). at p ds) u in
    let drawn : take (c.at-2.result.now - c.at.result.now) (drop c.at.result.now c.tape_of.result.now) ≡ at (before v) (taken ns left) =
    ap (λ z. take (c.at-2.result.now - c.at.result.now) (drop c.at.result.now z)) tape ∙ unseen_draws (before v) ns places c.in_ok-counts.counts ds c.at.result.now c.at-2.result.now counts from to in
    let made : c.push_changed.new.made ≡ c.args.self.now.made ++ t =
    c.in_ok-push_changed.ensures
    ∙ ap (λ z. c.args.self.now.made ++ z) (ap (λ w. changed change.order w (take (c.at-2.result.now - c.at.result.now) (drop c.at.result.now c.tape_of.result.now))) c.deref.ensures.value
    ∙ (ap (changed change.order change.words.items) drawn ∙ is)) in
    let others : lefts c.readers_with-others.result ≡ put (before v) t left =
    c.readers_with-others.ensures
    ∙ (ap (λ (p : Party). put p (drop c.len-place.result c.push_changed.new.made) left) u
    ∙ ap (λ z. put (before v) z left) (made_last c.args.self.now.made t c.push_changed.new.made c.len-place.result c.len-place.ensures.value made)) in
    let one = subst (λ z. IsReady g.T.Task.accepts l s x z → IsStepped g.T.Task.answer l s x z c.run_step.new.self (lefts c.run_step.new.tapes)) c.readers_at-readers-2.ensures (c.in_ok-run_step.ensures l) h.one in
    let other = subst (λ z. IsReady g.T.Task.accepts l s y z → IsStepped g.T.Task.answer l s y z c.run_step-2.new.self (lefts c.run_step-2.new.tapes)) others (c.in_ok-run_step-2.ensures l) h.other in
    record {
      one = one.machine;
      other = other.machine ∙ ap (stepped g.T.Task.answer l s y) (taken_put (before v) ns left change.order change.words.items t h.one.draws is);
      twin = made;
      left = left_behind_step ns places c.in_ok-counts.counts c.advance-places.result ds counts c.advance-places.ensures;
      alike = subst (λ z. AreReady g.T.Task.accepts v l s x y z → AreAlike (shows v l x s) (shows v l y s)) c.readers_at-readers.ensures (c.in_ok-change.ensures.alike l) h;
    }

pub returns-clause-within : goal.returns-clause-within
returns-clause-within g c p =
    let v = c.args.viewer in
    let s = c.args.step.now in
    let x = c.args.self.now.worlds.one in
    let y = c.args.self.now.worlds.other in
    let places = c.args.self.now.places in
    let ds = draws_of c.args.tapes.now in
    let left = left_at places ds in
    let l = c.requires.ready.0 in
    let h = c.requires.ready.1 in
    let fits = within (needs_of l s) places c.in_ok-counts.counts ds (c.in_ok-counts.ensures l left h.one) h.one.draws c.requires.within p in
    let e = c.advance-places.ensures p in
    omega arith
