-- The step Steer at one party.
use Rattle.std.proofs.Common.{◌≡◌, ℕ, ◌*◌, Bool, true, false, List, ◌++◌, length, take, refl, sym, ap, ◌∙◌}
use Rattle.std.specs.Prelude.{IsTrue, ◌&&◌, nat_le}
use Rattle.std.proofs.lemmas.Bool.{and_right, not_from_true, eqb-true}
use Rattle.std.proofs.lemmas.List.{length-map}
use Rattle.lanes.specs.declared.party.Party.{Party}
use Rattle.lanes.specs.declared.party.Party.TheVariants.{First, Second, Third}
use Rattle.lanes.specs.declared.three.Three.{Three}
use Rattle.lanes.specs.Party.{next, before}
use Rattle.lanes.specs.Three.{at, put}
use Rattle.lanes.specs.Items.{LaneLengths}
use Rattle.tapes.specs.Laws.{OrdersAreClosed}
use Rattle.tapes.specs.Order.{composed, inverse_of}
use Rattle.step_lists.specs.declared.step.Shape.{Shape}
use Rattle.step_lists.specs.declared.step.Shape.TheVariants as shapes
use Rattle.step_lists.specs.declared.step.Step.TheVariants.{Steer}
use Rattle.step_lists.specs.Layout.{Layout, party_of, shape_of, rows_moved}
use Rattle.step_lists.specs.Rules.{is_slot, is_order_of, move_together}
use Rattle.step_lists.specs.Shapes.{HasShape}
use Rattle.step_lists.specs.Draws.{ThreeTapes, nothing, joined, order_in}
use Rattle.step_lists.specs.Seen.{same_party}
use Rattle.step_lists.specs.Open.{item}
use Rattle.step_lists.specs.Phases.{Links, link, message, behind_on, Moving, phase_words}
use Rattle.step_lists.specs.Machine.{Machine, shares, slot_of, moving, steer_order, steer_words, drawn_phase, private_phase}
use Rattle.step_lists.specs.Part.{Given, PartMoving, part_moving, part_phase, phase_sends, phase_takes, held_order, steered, behind_order, part_drawn, part_private, when_sent, is_bad_order, is_order}
use Rattle.party_laws.specs.InMachine.{received_by, held}
use Rattle.party_laws.proofs.Lists.{both, true_apart, take_front, drop_front, take_whole, same_three_of}
use Rattle.party_laws.proofs.Threes.{received_behind, joined_nothing, at_joined, count_phase, count_message}
use Rattle.party_laws.proofs.Orders.{HasItems, drawn_in_steer, sent_order, order_is}
use Rattle.party_laws.proofs.Phasing.{moving_in, phase_in, phase_sent, there_long, back_long, made_count}
use Rattle.party_laws.proofs.PhasesHeld.{order_in_phase, order_in_sends, moving_is}
use Rattle.party_laws.proofs.Cuts.{IsReady, IsCut, given_in, more_pairs, same_slot, slot_fits}

-- ---- the order that goes from p to the party before it

behind_is : (v p : Party) (n : ℕ) (y : Moving) (o : List ℕ) (rest : Three (List ℕ)) → length o ≡ n
    → behind_order v p n (moving_in v y (joined (received_by v (message p (before p) o)) rest)) ≡ moving_in v y rest
behind_is Third First n y o rest h = ap (λ w. moving_in Third y (put First w rest)) (drop_front n o rest.first h)
behind_is First Second n y o rest h = ap (λ w. moving_in First y (put Second w rest)) (drop_front n o rest.second h)
behind_is Second Third n y o rest h = ap (λ w. moving_in Second y (put Third w rest)) (drop_front n o rest.third h)
behind_is First First n y o rest h = refl
behind_is Second First n y o rest h = refl
behind_is Second Second n y o rest h = refl
behind_is Third Second n y o rest h = refl
behind_is Third Third n y o rest h = refl
behind_is First Third n y o rest h = refl

first_sent : (v p : Party) (own o : List ℕ) → (same_party v p ≡ true → own ≡ o) → when_sent (same_party v p) (put (before v) own nothing) ≡ at v (message p (before p) o)
first_sent First First own o e = ap (λ w. put Third w nothing) (e refl)
first_sent Second Second own o e = ap (λ w. put First w nothing) (e refl)
first_sent Third Third own o e = ap (λ w. put Second w nothing) (e refl)
first_sent First Second own o e = refl
first_sent First Third own o e = refl
first_sent Second First own o e = refl
first_sent Second Third own o e = refl
first_sent Third First own o e = refl
first_sent Third Second own o e = refl

-- the private phase under an order that its two parties have
pub private_same : (v p : Party) (n : ℕ) (o u : List ℕ) (x : PartMoving) → (same_party v p ≡ true → u ≡ o) → (same_party v (before p) ≡ true → u ≡ o)
    → (part_phase v p u n x ≡ part_phase v p o n x) × (phase_sends v p u n x ≡ phase_sends v p o n x)
private_same First First n o u x own got = (ap (λ w. part_phase First First w n x) (own refl), ap (λ w. phase_sends First First w n x) (own refl))
private_same Second Second n o u x own got = (ap (λ w. part_phase Second Second w n x) (own refl), ap (λ w. phase_sends Second Second w n x) (own refl))
private_same Third Third n o u x own got = (ap (λ w. part_phase Third Third w n x) (own refl), ap (λ w. phase_sends Third Third w n x) (own refl))
private_same Third First n o u x own got = (ap (λ w. part_phase Third First w n x) (got refl), ap (λ w. phase_sends Third First w n x) (got refl))
private_same First Second n o u x own got = (ap (λ w. part_phase First Second w n x) (got refl), ap (λ w. phase_sends First Second w n x) (got refl))
private_same Second Third n o u x own got = (ap (λ w. part_phase Second Third w n x) (got refl), ap (λ w. phase_sends Second Third w n x) (got refl))
private_same Second First n o u x own got = (refl, refl)
private_same Third Second n o u x own got = (refl, refl)
private_same First Third n o u x own got = (refl, refl)

-- the order as its maker has it, and as it comes
own_order : (v p : Party) (own secret : List ℕ) (ds : ThreeTapes) (w : Links) → same_party v p ≡ true → own ≡ secret → steered v p own (given_in v ds w) ≡ steer_order p secret ds
own_order First First own secret ds w e f = ap (composed (inverse_of (order_in ds.second))) f
own_order Second Second own secret ds w e f = ap (composed (inverse_of (order_in ds.third))) f
own_order Third Third own secret ds w e f = ap (composed (inverse_of (order_in ds.first))) f
own_order First Second own secret ds w e f = absurd (true_apart e)
own_order First Third own secret ds w e f = absurd (true_apart e)
own_order Second First own secret ds w e f = absurd (true_apart e)
own_order Second Third own secret ds w e f = absurd (true_apart e)
own_order Third First own secret ds w e f = absurd (true_apart e)
own_order Third Second own secret ds w e f = absurd (true_apart e)

pub got_order : (v p : Party) (own : List ℕ) (g : Given) → same_party v (before p) ≡ true → steered v p own g ≡ at p g.received
got_order Third First own g e = refl
got_order First Second own g e = refl
got_order Second Third own g e = refl
got_order First First own g e = absurd (true_apart e)
got_order Second First own g e = absurd (true_apart e)
got_order Second Second own g e = absurd (true_apart e)
got_order Third Second own g e = absurd (true_apart e)
got_order Third Third own g e = absurd (true_apart e)
got_order First Third own g e = absurd (true_apart e)

order_comes : (v p : Party) (o : List ℕ) → same_party v (before p) ≡ true → at p (received_by v (message p (before p) o)) ≡ o
order_comes Third First o e = refl
order_comes First Second o e = refl
order_comes Second Third o e = refl
order_comes First First o e = absurd (true_apart e)
order_comes Second First o e = absurd (true_apart e)
order_comes Second Second o e = absurd (true_apart e)
order_comes Third Second o e = absurd (true_apart e)
order_comes Third Third o e = absurd (true_apart e)
order_comes First Third o e = absurd (true_apart e)

no_bad_order : (b : Bool) (n : ℕ) (got o : List ℕ) → (b ≡ true → take n got ≡ o) → is_order o ≡ true → (b && is_bad_order n got) ≡ false
no_bad_order true n got o e h = and_right (nat_le n (length got)) _ (not_from_true (is_order (take n got)) (ap is_order (e refl) ∙ h))
no_bad_order false n got o e h = refl

secret_shape : (n : ℕ) (shape : Shape) (g : List ℕ) → IsTrue (is_order_of n shape) → HasShape shape g → HasItems n g
secret_shape n (shapes.Words k) g h i = absurd (true_apart h)
secret_shape n (shapes.OrderOf k) g h i = record { order = i.1; long = i.0.long ∙ eqb-true k n h }

module _ (lengths : LaneLengths) (v p : Party) (m : Machine) (n : ℕ) (secret own : List ℕ) (moved : List ℕ) (ds : ThreeTapes) (drawn : HasItems n (order_in (at (next p) ds)))
    (order : HasItems n (steer_order p secret ds)) (known : same_party v p ≡ true → own ≡ secret) where
  abbrev o : List ℕ
  o = steer_order p secret ds

  abbrev y0 : Moving
  y0 = moving m moved ds

  abbrev y1 : Moving
  y1 = drawn_phase p n ds y0

  abbrev w0 : Links
  w0 = message p (before p) o

  abbrev w1 : Links
  w1 = phase_words (next p) (order_in (at (next p) ds)) n y0

  abbrev w2 : Links
  w2 = phase_words p o n y1

  abbrev pub words : Links
  words = steer_words p secret n ds y0

  abbrev g : Given
  g = given_in v ds words

  abbrev r1 : Three (List ℕ)
  r1 = received_by v w2

  abbrev r0 : Three (List ℕ)
  r0 = joined (received_by v w1) r1

  got_is : received_by v words ≡ joined (received_by v w0) r0
  got_is = received_behind v w0 (behind_on w1 w2) ∙ ap (joined (received_by v w0)) (received_behind v w1 w2)

  -- the order as the party has it
  pub first_got : same_party v (before p) ≡ true → take n (at p (received_by v words)) ≡ o
  first_got e =
      ap (λ r. take n (at p r)) got_is
      ∙ (ap (take n) (at_joined p (received_by v w0) r0) ∙ (ap (λ t. take n (t ++ at p r0)) (order_comes v p o e) ∙ take_front n o (at p r0) order.long))

  has_own : same_party v p ≡ true → take n (steered v p own g) ≡ o
  has_own e = ap (take n) (own_order v p own secret ds words e (known e)) ∙ take_whole n o order.long

  has_got : same_party v (before p) ≡ true → take n (steered v p own g) ≡ o
  has_got e = ap (take n) (got_order v p own g e) ∙ first_got e

  module _ (x : Three (List ℕ)) (t : Three ℕ) where
    abbrev x0 : PartMoving
    x0 = part_moving (held v m x t) moved g

    x0_is : behind_order v p n x0 ≡ moving_in v y0 r0
    x0_is = ap (behind_order v p n) (moving_is v m x t moved ds words ∙ ap (moving_in v y0) got_is) ∙ behind_is v p n y0 o r0 order.long

    x1_is : part_drawn v p n g x0 ≡ moving_in v y1 r1
    x1_is =
        order_in_phase v (next p) ds words n (behind_order v p n x0)
        ∙ (ap (part_phase v (next p) (order_in (at (next p) ds)) n) x0_is ∙ phase_in lengths (order_in (at (next p) ds)) n y0 r1 drawn.long v (next p))

    abbrev last : PartMoving
    last = moving_in v (private_phase p secret n ds y0) nothing

    r1_is : joined (received_by v w2) nothing ≡ r1
    r1_is = joined_nothing (received_by v w2)

    pub x2_is : part_private v p own n g x0 ≡ last
    x2_is =
        (private_same v p n o (take n (steered v p own g)) (part_drawn v p n g x0) has_own has_got).0
        ∙ (ap (part_phase v p o n) (x1_is ∙ ap (moving_in v y1) (sym r1_is)) ∙ phase_in lengths o n y1 nothing order.long v p)

    pub s0_is : when_sent (same_party v p) (put (before v) (steered v p own g) nothing) ≡ at v w0
    s0_is = first_sent v p (steered v p own g) o (λ e. own_order v p own secret ds words e (known e))

    pub s1_is : phase_sends v (next p) (held_order v (next p) g) n (behind_order v p n x0) ≡ at v w1
    s1_is =
        order_in_sends v (next p) ds words n (behind_order v p n x0)
        ∙ (ap (phase_sends v (next p) (order_in (at (next p) ds)) n) x0_is ∙ phase_sent (order_in (at (next p) ds)) n y0 r0 v (next p))

    pub s2_is : phase_sends v p (take n (steered v p own g)) n (part_drawn v p n g x0) ≡ at v w2
    s2_is =
        (private_same v p n o (take n (steered v p own g)) (part_drawn v p n g x0) has_own has_got).1
        ∙ (ap (phase_sends v p o n) x1_is ∙ phase_sent o n y1 r1 v p)

  pub counted : (c : ℕ) → length moved ≡ c → (k : Party)
      → (length (link k v w1) ≡ at k (phase_takes v (next p) (c * n))) × (length (link k v w2) ≡ at k (phase_takes v p (c * n)))
  counted c e k =
      let t = order_in (at (next p) ds) in
      let c0 : length y0.shares ≡ c = length-map moved (shares m) ∙ e in
      let c1 : length y1.shares ≡ c = made_count n (next p) t y0.shares (at (before (next p)) y0.masks) (at (next (next p)) y0.masks) ∙ c0 in (
        count_phase k v (next p) _ _ (c * n)
            (there_long lengths n (next p) t y0.shares (at (before (next p)) y0.masks) drawn.long ∙ ap (λ i. i * n) c0)
            (back_long lengths n (next p) t y0.shares (at (next (next p)) y0.masks) drawn.long ∙ ap (λ i. i * n) c0),
        count_phase k v p _ _ (c * n)
            (there_long lengths n p o y1.shares (at (before p) y1.masks) order.long ∙ ap (λ i. i * n) c1)
            (back_long lengths n p o y1.shares (at (next p) y1.masks) order.long ∙ ap (λ i. i * n) c1),
      )

module _ {T : Type 0} (accepts : T → List Shape → List Shape → Bool) (answer : T → List (List ℕ) → List (List ℕ)) where
  pub steer_cut : LaneLengths → OrdersAreClosed → (v : Party) (l : Layout) (m : Machine) (by s : ℕ) (moved : List ℕ) (ds : ThreeTapes)
      → IsReady accepts answer l m (Steer by s moved) ds → IsCut accepts answer v l m (Steer by s moved) ds
  steer_cut lengths closed v l m by s moved ds h =
      let p = party_of by in
      let n = rows_moved l moved in
      let secret = slot_of m p s in
      let own = item (at v m.slots) s in
      let one = both (is_slot l by s && move_together l moved) (is_order_of n (shape_of l p s)) h.step in
      let two = both (is_slot l by s) (move_together l moved) one.0 in
      let shaped = secret_shape n (shape_of l p s) secret one.1 (slot_fits accepts answer l m by s h.slots two.0) in
      let drawn = drawn_in_steer p (length moved) n ds h.draws in
      let order = sent_order lengths closed p n secret ds drawn shaped in
      let known = same_slot v p m.slots s in
      let y = private_phase p secret n ds (moving m moved ds) in
      record {
        part = λ x t. more_pairs v m x t _ y.shares (ap (λ z. z.pairs) (x2_is lengths v p m n secret own moved ds drawn order known x t));
        sent = λ x t.
            same_three_of _ _ _ _ _ _ (s0_is lengths v p m n secret own moved ds drawn order known x t) (s1_is lengths v p m n secret own moved ds drawn order known x t)
            (s2_is lengths v p m n secret own moved ds drawn order known x t);
        count = λ k.
            let c = counted lengths v p m n secret own moved ds drawn order known (length moved) refl k in
            (count_message k v p (before p) (steer_order p secret ds) n order.long, (c.0, (c.1, tt)));
        order =
            no_bad_order (same_party v (before p)) n (at p (received_by v (steer_words p secret n ds (moving m moved ds)))) (steer_order p secret ds)
            (first_got lengths v p m n secret own moved ds drawn order known) (order_is closed (steer_order p secret ds) order.order);
      }
