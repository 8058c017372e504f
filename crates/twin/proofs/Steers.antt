-- The step Steer: the viewer can't tell the two worlds apart behind it, and the way back gives the old draws.
use Rattle.std.proofs.Common.{◌≡◌, ℕ, ◌*◌, Bool, true, false, List, length, refl, sym, subst, ◌∙◌, ap}
use Rattle.std.specs.Prelude.{if◌then◌else◌}
use Rattle.lanes.specs.declared.party.Party.{Party}
use Rattle.lanes.specs.declared.party.Party.TheVariants.{First, Second, Third}
use Rattle.lanes.specs.Party.{next, before}
use Rattle.lanes.specs.Three.{at}
use Rattle.tapes.specs.Order.{composed, inverse_of}
use Rattle.step_lists.specs.declared.step.Shape.{Shape}
use Rattle.step_lists.specs.declared.step.Step.TheVariants.{Steer}
use Rattle.step_lists.specs.Layout.{Layout, party_of, rows_moved}
use Rattle.step_lists.specs.Seen.{same_party}
use Rattle.step_lists.specs.Draws.{ThreeTapes, order_in}
use Rattle.step_lists.specs.Open.{item}
use Rattle.step_lists.specs.Machine.{Machine, slot_of, moving, private_phase, steer_order}
use Rattle.step_lists.specs.Twin.{changed, begin_both, steer_both, steered_order}
use Rattle.twin.proofs.Facts.{Facts}
use Rattle.twin.proofs.Puts.{at_put, same_message}
use Rattle.twin.proofs.Fitted.{same_registers}
use Rattle.twin.proofs.Steps.{Keeps, Returns, StepHolds, Pair, twin_drawn}
use Rattle.twin.proofs.Orders.{HasItems, steered_sent, steered_back}
use Rattle.twin.proofs.PhasesDrawn.{items_of, SteerDrawn, steer_drawn, changed_back}
use Rattle.twin.proofs.RevealsFit.{IsShort, short_of}
use Rattle.twin.proofs.Reveals.{party_same, words_behind}
use Rattle.twin.proofs.SteersFit.{steer_allowed, private_has, twin_steers, twin_steers_short, steer_fits, steer_meets}
use Rattle.twin.proofs.SteersTurned.{drawn_seen, private_seen, drawn_order, drawn_only, IsSteered, steer_turns}

-- the party before one is the viewer where the one is the next party
party_turned : (v p : Party) → same_party v (before p) ≡ same_party p (next v)
party_turned First First = refl
party_turned First Second = refl
party_turned First Third = refl
party_turned Second First = refl
party_turned Second Second = refl
party_turned Second Third = refl
party_turned Third First = refl
party_turned Third Second = refl
party_turned Third Third = refl

-- then it is sent the same order in both worlds
sent_same : Facts → (v p : Party) (n : ℕ) (t g h : List ℕ) → HasItems n t → HasItems n g → HasItems n h → same_party p (next v) ≡ true
    → composed (inverse_of t) g ≡ composed (inverse_of (twin_steers v p t g h)) h
sent_same facts v p n t g h ht hg hh e =
    sym (steered_sent facts n t g h ht hg hh) ∙ ap (λ b. composed (inverse_of (if b then steered_order t g h else t)) h) (sym e)

-- the twin of the twin's order is the old one
twin_steers_back : Facts → (v p : Party) (n : ℕ) (t g h : List ℕ) → HasItems n t → HasItems n g → HasItems n h
    → twin_steers v p (twin_steers v p t g h) h g ≡ t
twin_steers_back facts v p n t g h ht hg hh = either (same_party p (next v)) where
  either : (b : Bool) → (if b then steered_order (if b then steered_order t g h else t) h g else (if b then steered_order t g h else t)) ≡ t
  either true = steered_back facts n t g h ht hg hh
  either false = refl

module _ {T : Type 0} (accepts : T → List Shape → List Shape → Bool) (answer : T → List (List ℕ) → List (List ℕ)) where
  -- what is known before a Steer of party p in both worlds
  record Before (v p : Party) (n c : ℕ) (g h : List ℕ) (ds : ThreeTapes) : Type 0 where
    drawn : SteerDrawn p (c * n) n ds
    order : HasItems n (order_in (at (next p) ds))
    one : HasItems n g
    other : HasItems n h
    twin : IsShort n (twin_steers v p (order_in (at (next p) ds)) g h)

  steer_before : Facts → (v : Party) (l : Layout) (x y : Machine) (by s : ℕ) (moved : List ℕ) (ds : ThreeTapes)
      → Pair {T = T} accepts answer v l x y (Steer by s moved) ds
      → Before v (party_of by) (rows_moved l moved) (length moved) (slot_of x (party_of by) s) (slot_of y (party_of by) s) ds
  steer_before facts v l x y by s moved ds pair =
      let n = rows_moved l moved in
      let p = party_of by in
      let may = steer_allowed accepts l by s moved pair.allowed.step in
      let drawn = steer_drawn facts p (length moved) n ds pair.allowed.draws in
      let order = items_of n (at (next p) ds) drawn.order in
      let one = private_has l x by s moved pair.one may in
      let other = private_has l y by s moved pair.other may in
      record {
        drawn = drawn;
        order = order;
        one = one;
        other = other;
        twin = twin_steers_short facts v p n (order_in (at (next p) ds)) (slot_of x p s) (slot_of y p s) (short_of n ds (next p) drawn.order) order one other;
      }

  -- both worlds, by the orders that the twin counts with
  steer_both_worlds : Facts → (v : Party) (l : Layout) (x y : Machine) (by s : ℕ) (moved : List ℕ) (ds : ThreeTapes)
      → Pair {T = T} accepts answer v l x y (Steer by s moved) ds
      → Before v (party_of by) (rows_moved l moved) (length moved) (slot_of x (party_of by) s) (slot_of y (party_of by) s) ds
      → IsSteered v (party_of by) (rows_moved l moved) (order_in (at (next (party_of by)) ds))
      (twin_steers v (party_of by) (order_in (at (next (party_of by)) ds)) (slot_of x (party_of by) s) (slot_of y (party_of by) s))
      (slot_of x (party_of by) s) (slot_of y (party_of by) s) (begin_both x y moved ds) (begin_both y x moved (twin_drawn {T = T} v l x y (Steer by s moved) ds))
  steer_both_worlds facts v l x y by s moved ds pair i =
      let n = rows_moved l moved in
      let p = party_of by in
      let t = order_in (at (next p) ds) in
      let g = slot_of x p s in
      let h = slot_of y p s in
      let u = twin_steers v p t g h in
      steer_turns facts v p n t u g h x y moved ds (record { one = i.order.long; other = i.twin.long; seen = drawn_seen v p t g h })
      (record {
        one = facts.lengths.pick g (inverse_of t) ∙ i.one.long;
        other = facts.lengths.pick h (inverse_of u) ∙ i.other.long;
        seen =
            private_seen v p t g h
            (λ e. subst (λ q. slot_of x q s ≡ slot_of y q s) (party_same v p e) (ap (λ xs. item xs s) pair.same.slots))
            (sent_same facts v p n t g h i.order i.one i.other);
      })
      pair.same.registers (i.drawn.words (before v))

  pub steer_keeps : Facts → (by s : ℕ) (moved : List ℕ) → Keeps {T = T} accepts answer (Steer by s moved)
  steer_keeps facts by s moved v l x y ds pair =
      let n = rows_moved l moved in
      let p = party_of by in
      let i = steer_before facts v l x y by s moved ds pair in
      let t = order_in (at (next p) ds) in
      let g = slot_of x p s in
      let h = slot_of y p s in
      let u = twin_steers v p t g h in
      let b = begin_both x y moved ds in
      let es = twin_drawn {T = T} v l x y (Steer by s moved) ds in
      let stands = drawn_order v p n (length moved * n) g h (steer_both v p t u g h n b).changes ds i.twin.long i.drawn in
      let is = subst (λ o. IsSteered v p n t o g h b (begin_both y x moved es)) (sym stands) (steer_both_worlds facts v l x y by s moved ds pair i) in
      let one = private_phase p g n ds (moving x moved ds) in
      let two = private_phase p h n es (moving y moved es) in
      record {
        same = same_registers v x y one.shares two.shares pair.same is.paired.forth.stands.held;
        words =
            words_behind v _ _ _ _
            (same_message v p (before p) (steer_order p g ds) (steer_order p h es)
            (λ e. sent_same facts v p n t g h i.order i.one i.other (sym (party_turned v p) ∙ e) ∙ ap (λ o. composed (inverse_of o) h) (sym stands)))
            (words_behind v _ _ _ _ is.first is.second);
      }

  pub steer_returns : Facts → (by s : ℕ) (moved : List ℕ) → Returns {T = T} accepts answer (Steer by s moved)
  steer_returns facts by s moved v l x y ds pair =
      let n = rows_moved l moved in
      let p = party_of by in
      let i = steer_before facts v l x y by s moved ds pair in
      let t = order_in (at (next p) ds) in
      let g = slot_of x p s in
      let h = slot_of y p s in
      let u = twin_steers v p t g h in
      let d = at (before v) ds in
      let b = begin_both x y moved ds in
      let cs = (steer_both v p t u g h n b).changes in
      let es = twin_drawn {T = T} v l x y (Steer by s moved) ds in
      let c = begin_both y x moved es in
      let stands = drawn_order v p n (length moved * n) g h cs ds i.twin.long i.drawn in
      let is = steer_both_worlds facts v l x y by s moved ds pair i in
      ap (λ o. changed (twin_steers v p o h g) (steer_both v p o (twin_steers v p o h g) h g n c).changes (at (before v) es)) stands
      ∙ (ap (λ o. changed o (steer_both v p u o h g n c).changes (at (before v) es)) (twin_steers_back facts v p n t g h i.order i.one i.other)
      ∙ (ap (λ z. changed t z (at (before v) es)) (sym is.paired.same)
      ∙ (ap (changed t cs) (at_put (before v) (changed u cs d) ds) ∙ changed_back facts t u cs d (drawn_only v p n (length moved * n) ds i.drawn))))

  pub steer_holds : Facts → (by s : ℕ) (moved : List ℕ) → StepHolds {T = T} accepts answer (Steer by s moved)
  steer_holds facts by s moved = record {
    fits = steer_fits accepts answer facts by s moved;
    meets = steer_meets accepts answer facts by s moved;
    keeps = steer_keeps facts by s moved;
    back = steer_returns facts by s moved;
  }
