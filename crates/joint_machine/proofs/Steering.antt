-- Two phases of a Steer, and what is sent before them.
use Rattle.std.proofs.Common.{◌≡◌, ℕ, ◌*◌, List, [], length, map, refl, sym, ◌∙◌, ap}
use Rattle.std.specs.Prelude.{slice_index}
use Rattle.std.proofs.lemmas.List.{length-map, append-nil}
use Rattle.std.proofs.lemmas.List.FromFn.{length-map-range_with_len}
use Rattle.lanes.specs.declared.party.Party.{Party}
use Rattle.lanes.specs.declared.party.Party.TheVariants.{First, Second, Third}
use Rattle.lanes.specs.declared.three.Three.{Three}
use Rattle.lanes.specs.Party.{next, before}
use Rattle.lanes.specs.Three.{at, each}
use Rattle.tapes.specs.Order.{composed, inverse_of}
use Rattle.step_lists.specs.Draws.{ThreeTapes, words_in, order_in}
use Rattle.step_lists.specs.Phases.{Shares, Links, phase_words, message, behind_on}
use Rattle.step_lists.specs.Machine.{Machine, shares, moving, delivered, with_shares, drawn_phase, private_phase, steer_order}
use Rattle.joint_machine.specs.Steps.{IsPhase, PhaseDraw, IsDrawnFor, HoldSteer, IsSteer}
use Rattle.joint_machine.proofs.Cutting.{HasFront}
use Rattle.joint_machine.proofs.LinkLists.{behind_assoc}
use Rattle.joint_machine.proofs.Revealing.{phase_of, count_made}

-- the parties go round
back_again : {A : Type 0} (p : Party) (x : Three A) → at (before (next p)) x ≡ at p x
back_again First x = refl
back_again Second x = refl
back_again Third x = refl

two_on : {A : Type 0} (p : Party) (x : Three A) → at (next (next p)) x ≡ at (before p) x
two_on First x = refl
two_on Second x = refl
two_on Third x = refl

words_at : (p : Party) (ds : ThreeTapes) → at p (each words_in ds) ≡ words_in (at p ds)
words_at First ds = refl
words_at Second ds = refl
words_at Third ds = refl

last_form : (m : Machine) (made : List Shares) (w0 w1 w2 : Links)
    → with_shares (delivered w2 (delivered w1 (delivered w0 m))) made ≡ delivered (behind_on w0 (behind_on w1 w2)) (with_shares m made)
last_form m made w0 w1 w2 =
    ap (λ links. record (with_shares m made) { links = links })
    (behind_assoc (behind_on m.links w0) w1 w2 ∙ behind_assoc m.links w0 (behind_on w1 w2))

pub steer_is : (m m0 m1 m2 m3 : Machine) (n : ℕ) (p : Party) (g moved : List ℕ) (ds : ThreeTapes) (one two : PhaseDraw) (start made1 made2 : List Shares)
    → start ≡ map (shares m) moved
    → IsDrawnFor n (length moved * n) one → IsDrawnFor n (length moved * n) two → two.order ≡ composed (inverse_of one.order) g
    → HoldSteer p ds one two.mask two.other
    → m0 ≡ delivered (message p (before p) two.order) m
    → IsPhase m0 (next p) one.order start one.mask one.other made1 m1
    → IsPhase m1 p two.order made1 two.mask two.other made2 m2
    → m3 ≡ with_shares m2 made2
    → IsSteer m n p g moved ds m3
steer_is m m0 m1 m2 m3 n p g moved ds one two start made1 made2 es l1 l2 et holds e0 p1 p2 e3 =
    let x = moving m moved ds in
    let y = drawn_phase p n ds x in
    let z = private_phase p g n ds x in
    let o1 = order_in (at (next p) ds) in
    let o2 = steer_order p g ds in
    let cx : length x.shares ≡ length moved = length-map moved (shares m) in
    let kx : length x.shares * n ≡ length moved * n = ap (λ k. k * n) cx in
    let f1 : HasFront (next p) n x one.mask one.other [] two.mask =
    record {
      mask = back_again p x.masks ∙ (words_at p ds ∙ (holds.own ∙ sym (append-nil one.mask)));
      other = two_on p x.masks ∙ (words_at (before p) ds ∙ holds.earlier);
      mask_long = l1.mask ∙ sym kx;
      other_long = l1.other ∙ sym kx;
    } in
    let h1 = phase_of m0 (next p) one.order o1 n x start one.mask one.other [] two.mask made1 m1 p1 holds.order l1.order es f1 in
    let cy : length y.shares ≡ length moved = ap length (sym h1.shares) ∙ (count_made m0 (next p) one.order start one.mask one.other made1 m1 p1 ∙ (ap length es ∙ cx)) in
    let ky : length y.shares * n ≡ length moved * n = ap (λ k. k * n) cy in
    let f2 : HasFront p n y two.mask two.other [] [] =
    record {
      mask = sym (two_on p y.masks) ∙ (h1.other ∙ sym (append-nil two.mask));
      other = h1.own ∙ (words_at (next p) ds ∙ (holds.following ∙ sym (append-nil two.other)));
      mask_long = l2.mask ∙ sym ky;
      other_long = l2.other ∙ sym ky;
    } in
    let e2 : two.order ≡ o2 = et ∙ ap (λ t. composed (inverse_of t) g) holds.order in
    let h2 = phase_of m1 p two.order o2 n y made1 two.mask two.other [] [] made2 m2 p2 e2 l2.order h1.shares f2 in
    let w0 = message p (before p) o2 in
    let w1 = phase_words (next p) o1 n x in
    let w2 = phase_words p o2 n y in
    let sent : m2 ≡ delivered w2 (delivered w1 (delivered w0 m)) =
    h2.sent ∙ ap (delivered w2) (h1.sent ∙ ap (delivered w1) (e0 ∙ ap (λ o. delivered (message p (before p) o) m) e2)) in
    e3
    ∙ (ap (λ m. with_shares m made2) sent
    ∙ (ap (λ made. with_shares (delivered w2 (delivered w1 (delivered w0 m))) made) h2.shares
    ∙ last_form m z.shares w0 w1 w2))

-- what is left to an order g behind a drawn one
pub record IsLeft (t g o : List ℕ) : Type 0 where
  pub is : o ≡ composed (inverse_of t) g
  pub long : length o ≡ length t

pub inverse_long : (t : List ℕ) → length (inverse_of t) ≡ length t
inverse_long t = length-map-range_with_len _ 0 (length t)

pub order_left : (t g words o : List ℕ) → o ≡ composed (inverse_of t) words → words ≡ g → length g ≡ length t → IsLeft t g o
order_left t g words o e f l =
    let is : o ≡ composed (inverse_of t) g = e ∙ ap (λ ws. composed (inverse_of t) ws) f in
    record { is = is; long = ap length is ∙ (length-map g (slice_index (inverse_of t)) ∙ l) }
