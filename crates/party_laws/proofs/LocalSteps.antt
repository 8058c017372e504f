-- The steps Const, Lin, Tell, Work and Flag at one party.
use Rattle.std.proofs.Common.{◌≡◌, ℕ, suc, Bool, true, false, List, [], ◌∷◌, length, map, refl, sym, ap, ◌∙◌}
use Rattle.std.specs.Prelude.{IsTrue, ◌&&◌, ◌==◌, not, slice_index, if◌then◌else◌}
use Rattle.std.proofs.lemmas.Bool.{eqb-true}
use Rattle.std.proofs.lemmas.List.{append-nil}
use Rattle.lanes.specs.declared.party.Party.{Party}
use Rattle.lanes.specs.declared.party.Party.TheVariants.{First, Second, Third}
use Rattle.lanes.specs.declared.three.Three.{Three}
use Rattle.lanes.specs.Party.{next}
use Rattle.lanes.specs.Three.{at, put}
use Rattle.step_lists.specs.declared.step.Shape.{Shape}
use Rattle.step_lists.specs.declared.step.Shape.TheVariants as shapes
use Rattle.step_lists.specs.declared.step.LinOp.{LinOp}
use Rattle.step_lists.specs.declared.step.Step.TheVariants.{Const, Lin, Tell, Work, Flag}
use Rattle.step_lists.specs.Layout.{Layout, party_of, shape_of, words_in_slot}
use Rattle.step_lists.specs.Rules.{is_slot, is_party, is_words, is_one_word}
use Rattle.step_lists.specs.Shapes.{HasShape}
use Rattle.step_lists.specs.Draws.{ThreeTapes, parties, nothing}
use Rattle.step_lists.specs.Seen.{same_party}
use Rattle.step_lists.specs.Lin.{lin_share}
use Rattle.step_lists.specs.Open.{item}
use Rattle.step_lists.specs.Phases.{message}
use Rattle.step_lists.specs.Machine.{Machine, shares, slot_of, const_share, machine_flag, to_both, machine_step, step_words}
use Rattle.step_lists.specs.Part.{part_flag, part_step, pair_at, to_others, when_sent}
use Rattle.party_laws.specs.InMachine.{pair_of, received_by, held}
use Rattle.party_laws.proofs.Lists.{both, true_apart, same_maps}
use Rattle.party_laws.proofs.Threes.{at_received, message_arrives, count_message, count_both}
use Rattle.party_laws.proofs.Cuts.{IsReady, IsCut, given_in, pair_is, more_pairs, own_slots, same_slot, slot_fits, slot_long}

-- ---- Const and Lin

const_pair : (v : Party) (words : List ℕ) → record { own = const_share v words; following = const_share (next v) words } ≡ pair_of v (parties (λ i. const_share i words))
const_pair First words = refl
const_pair Second words = refl
const_pair Third words = refl

lin_pair : (v : Party) (op : LinOp) (m : Machine)
    → record { own = lin_share v op (λ r. at v (shares m r)); following = lin_share (next v) op (λ r. at (next v) (shares m r)) }
    ≡ pair_of v (parties (λ i. lin_share i op (λ r. at i (shares m r))))
lin_pair First op m = refl
lin_pair Second op m = refl
lin_pair Third op m = refl

-- equal registers give equal words
same_words : (p : Party) (op : LinOp) (f g : ℕ → List ℕ) → ((r : ℕ) → f r ≡ g r) → lin_share p op f ≡ lin_share p op g
same_words p op f g e = ap (lin_share p op) (λ i r. e r i)

-- ---- words of a party that it has itself, or that came from it

pub words_told : (v p : Party) (w : List ℕ) (q : Party) → same_party v q ≡ true → at p (received_by v (message p q w)) ≡ w
words_told First p w First e = at_received First p (message p First w) ∙ message_arrives p First w
words_told Second p w Second e = at_received Second p (message p Second w) ∙ message_arrives p Second w
words_told Third p w Third e = at_received Third p (message p Third w) ∙ message_arrives p Third w
words_told First p w Second e = absurd (true_apart e)
words_told First p w Third e = absurd (true_apart e)
words_told Second p w First e = absurd (true_apart e)
words_told Second p w Third e = absurd (true_apart e)
words_told Third p w First e = absurd (true_apart e)
words_told Third p w Second e = absurd (true_apart e)

-- of words to both others
words_known : (v p : Party) (own w : List ℕ) → (same_party v p ≡ true → own ≡ w) → (if same_party v p then own else at p (received_by v (to_both p w))) ≡ w
words_known First First own w e = e refl
words_known Second Second own w e = e refl
words_known Third Third own w e = e refl
words_known Second First own w e = append-nil w
words_known Third Second own w e = append-nil w
words_known First Third own w e = append-nil w
words_known Third First own w e = refl
words_known First Second own w e = refl
words_known Second Third own w e = refl

-- what is told is sent by its source
told_sent : (v p q : Party) (own w : List ℕ) → (same_party v p ≡ true → own ≡ w) → when_sent (same_party v p) (put q own nothing) ≡ at v (message p q w)
told_sent First First q own w e = ap (λ x. put q x nothing) (e refl)
told_sent Second Second q own w e = ap (λ x. put q x nothing) (e refl)
told_sent Third Third q own w e = ap (λ x. put q x nothing) (e refl)
told_sent First Second q own w e = refl
told_sent First Third q own w e = refl
told_sent Second First q own w e = refl
told_sent Second Third q own w e = refl
told_sent Third First q own w e = refl
told_sent Third Second q own w e = refl

others_sent : (v : Party) (w : List ℕ) → to_others v w ≡ at v (to_both v w)
others_sent First w = ap (λ x. record { first = []; second = x; third = w }) (sym (append-nil w))
others_sent Second w = ap (λ x. record { first = w; second = []; third = x }) (sym (append-nil w))
others_sent Third w = ap (λ x. record { first = x; second = w; third = [] }) (sym (append-nil w))

-- words to both others are sent by the party
pub both_sent : (v p : Party) (own w : List ℕ) → (same_party v p ≡ true → own ≡ w) → when_sent (same_party v p) (to_others v own) ≡ at v (to_both p w)
both_sent First First own w e = ap (to_others First) (e refl) ∙ others_sent First w
both_sent Second Second own w e = ap (to_others Second) (e refl) ∙ others_sent Second w
both_sent Third Third own w e = ap (to_others Third) (e refl) ∙ others_sent Third w
both_sent First Second own w e = refl
both_sent First Third own w e = refl
both_sent Second First own w e = refl
both_sent Second Third own w e = refl
both_sent Third First own w e = refl
both_sent Third Second own w e = refl

flag_in : (v : Party) (m : Machine) (x : Three (List ℕ)) (t : Three ℕ) (w : List ℕ) → part_flag (held v m x t) w ≡ held v (machine_flag m w) x t
flag_in v m x t w = by (slice_index w 0 == 0) where
  by : (b : Bool) → (if b then record (held v m x t) { flags = suc m.flags } else record (held v m x t) { stop = true })
      ≡ held v (if b then record m { flags = suc m.flags } else record m { stop = true }) x t
  by true = refl
  by false = refl

one_long : (shape : Shape) (w : List ℕ) → IsTrue (is_one_word shape) → HasShape shape w → length w ≡ 1
one_long (shapes.Words n) w h i = i.long ∙ eqb-true n 1 h
one_long (shapes.OrderOf n) w h i = absurd (true_apart h)

module _ {T : Type 0} (accepts : T → List Shape → List Shape → Bool) (answer : T → List (List ℕ) → List (List ℕ)) where
  pub const_cut : (v : Party) (l : Layout) (m : Machine) (words : List ℕ) (ds : ThreeTapes) → IsCut accepts answer v l m (Const words) ds
  const_cut v l m words ds = record {
    part = λ x t. more_pairs v m x t _ (parties (λ i. const_share i words) ∷ []) (ap (λ p. p ∷ []) (const_pair v words));
    sent = λ x t. refl;
    count = λ q. tt;
    order = refl;
  }

  pub lin_cut : (v : Party) (l : Layout) (m : Machine) (op : LinOp) (ds : ThreeTapes) → IsCut accepts answer v l m (Lin op) ds
  lin_cut v l m op ds = record { part = part; sent = λ x t. refl; count = λ q. tt; order = refl } where
    pair : (x : Three (List ℕ)) (t : Three ℕ)
        → record { own = lin_share v op (λ r. (pair_at (held v m x t) r).own); following = lin_share (next v) op (λ r. (pair_at (held v m x t) r).following) }
        ≡ pair_of v (parties (λ i. lin_share i op (λ r. at i (shares m r))))
    pair x t =
        ap (λ w. record { own = w; following = lin_share (next v) op (λ r. (pair_at (held v m x t) r).following) })
        (same_words v op (λ r. (pair_at (held v m x t) r).own) (λ r. at v (shares m r)) (λ r. ap (λ p. p.own) (pair_is v m r)))
        ∙ (ap (λ w. record { own = lin_share v op (λ r. at v (shares m r)); following = w })
        (same_words (next v) op (λ r. (pair_at (held v m x t) r).following) (λ r. at (next v) (shares m r)) (λ r. ap (λ p. p.following) (pair_is v m r)))
        ∙ lin_pair v op m)

    part : (x : Three (List ℕ)) (t : Three ℕ) → part_step answer v l (held v m x t) (Lin op) (given_in v ds (step_words {T = T} l m (Lin op) ds)) ≡ held v (machine_step answer l m (Lin op) ds) x t
    part x t = more_pairs v m x t _ (parties (λ i. lin_share i op (λ r. at i (shares m r))) ∷ []) (ap (λ p. p ∷ []) (pair x t))

  pub tell_cut : (v : Party) (l : Layout) (m : Machine) (source target s : ℕ) (ds : ThreeTapes) → IsReady accepts answer l m (Tell source target s) ds
      → IsCut accepts answer v l m (Tell source target s) ds
  tell_cut v l m source target s ds h =
      let p = party_of source in
      let q = party_of target in
      let w = slot_of m p s in
      let one = both (is_slot l source s && is_party target && not (source == target)) (is_words (shape_of l p s)) h.step in
      let two = both (is_slot l source s && is_party target) (not (source == target)) one.0 in
      let three = both (is_slot l source s) (is_party target) two.0 in
      let long = slot_long accepts answer l m source s h.slots three.0 in
      record {
        part = λ x t. own_slots v q m x t (at p (received_by v (message p q w)) ∷ []) (w ∷ []) (λ e. ap (λ ws. ws ∷ []) (words_told v p w q e));
        sent = λ x t. ap (λ ws. ws ∷ []) (told_sent v p q (item (at v m.slots) s) w (same_slot v p m.slots s));
        count = λ k. (count_message k v p q w (words_in_slot l p s) long, tt);
        order = refl;
      }

  pub work_cut : (v : Party) (l : Layout) (m : Machine) (party : ℕ) (task : T) (takes : List ℕ) (gives : List Shape) (ds : ThreeTapes)
      → IsCut accepts answer v l m (Work party task takes gives) ds
  work_cut v l m party task takes gives ds = record {
    part = λ x t.
        own_slots v (party_of party) m x t (answer task (map (item (at v m.slots)) takes)) (answer task (map (slot_of m (party_of party)) takes))
        (λ e. ap (answer task) (same_maps (item (at v m.slots)) (slot_of m (party_of party)) (λ s. same_slot v (party_of party) m.slots s e) takes));
    sent = λ x t. refl;
    count = λ q. tt;
    order = refl;
  }

  pub flag_cut : (v : Party) (l : Layout) (m : Machine) (party s : ℕ) (ds : ThreeTapes) → IsReady accepts answer l m (Flag party s) ds
      → IsCut accepts answer v l m (Flag party s) ds
  flag_cut v l m party s ds h =
      let p = party_of party in
      let w = slot_of m p s in
      let may = both (is_slot l party s) (is_one_word (shape_of l p s)) h.step in
      let long = one_long (shape_of l p s) w may.1 (slot_fits accepts answer l m party s h.slots may.0) in
      record {
        part = λ x t.
            ap (part_flag (held v m x t)) (words_known v p (item (at v m.slots) s) w (same_slot v p m.slots s)) ∙ flag_in v m x t w;
        sent = λ x t. ap (λ ws. ws ∷ []) (both_sent v p (item (at v m.slots) s) w (same_slot v p m.slots s));
        count = λ k. (count_both k v p w 1 long, tt);
        order = refl;
      }
