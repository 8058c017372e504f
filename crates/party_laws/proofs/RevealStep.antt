-- The step Reveal at one party.
use Rattle.std.proofs.Common.{◌≡◌, ℕ, zero, suc, ◌<◌, ◌*◌, Bool, true, List, [], ◌∷◌, ◌++◌, length, map, refl, sym, ap, ◌∙◌, arith}
use Rattle.std.proofs.Math.Nat.{suc-mul}
use Rattle.std.specs.Prelude.{IsTrue, ◌&&◌, ◌==◌, not, nat_lt, slice_index_or}
use Rattle.std.specs.List.{flat_map, list_all, AllByRecursion, AllZip}
use Rattle.std.proofs.lemmas.List.{append-nil, length-append, length-map}
use Rattle.lanes.specs.declared.party.Party.{Party}
use Rattle.lanes.specs.declared.party.Party.TheVariants.{First, Second, Third}
use Rattle.lanes.specs.declared.three.Three.{Three}
use Rattle.lanes.specs.Party.{next, before}
use Rattle.lanes.specs.Three.{at, put, opened}
use Rattle.lanes.specs.Items.{LaneLengths}
use Rattle.step_lists.specs.declared.step.Shape.{Shape}
use Rattle.step_lists.specs.declared.step.Step.TheVariants.{Reveal}
use Rattle.step_lists.specs.Layout.{Layout, party_of, length_of, rows_moved}
use Rattle.step_lists.specs.Rules.{is_party, is_empty, is_register, move_together}
use Rattle.step_lists.specs.Draws.{ThreeTapes, nothing, joined, order_in}
use Rattle.step_lists.specs.Seen.{same_party}
use Rattle.step_lists.specs.Phases.{Shares, Links, link, message, behind_on, Moving, phase_words}
use Rattle.step_lists.specs.Machine.{Machine, shares, with_shares, moving, first_phase, second_phase, third_phase, shown_shares, reveal_words}
use Rattle.step_lists.specs.Part.{Given, PartMoving, no_pair, phase_takes, when_sent, part_moving, part_phase, part_first, part_second, part_third, phase_sends, held_order, revealed_slots, with_own_slots}
use Rattle.joint_machine.specs.Opens.{IsLong}
use Rattle.party_laws.specs.InMachine.{received_by, held}
use Rattle.party_laws.proofs.Lists.{both, below, equal, true_apart, all_hold, zip_at, zip_behind, same_four}
use Rattle.party_laws.proofs.Threes.{received_behind, count_phase, count_message}
use Rattle.party_laws.proofs.Orders.{HasItems, reveal_orders}
use Rattle.party_laws.proofs.Phasing.{moving_in, phase_in, phase_sent, there_long, back_long, made_count}
use Rattle.party_laws.proofs.PhasesHeld.{order_in_phase, order_in_sends, moving_is, AreShown, revealed_is, shown_sent}
use Rattle.party_laws.proofs.Cuts.{IsReady, IsCut, given_in, more_pairs, own_slots}
use Rattle.party_laws.proofs.LocalSteps.{words_told}

-- registers that are moved together have one length
pub row_lengths : (l : Layout) (n : ℕ) (moved : List ℕ) (k : ℕ) → AllByRecursion (λ r. IsTrue (is_register l r && (length_of l r == n))) moved
    → k < length moved → slice_index_or (map (length_of l) moved) k 0 ≡ n
row_lengths l n [] k h i = absurd (omega arith)
row_lengths l n (r ∷ rs) zero h i = equal (length_of l r) n (both (is_register l r) _ h.0).1
row_lengths l n (r ∷ rs) (suc k) h i = row_lengths l n rs k h.1 (omega arith)

-- the shown registers have as many words
pub shown_long : (l : Layout) (n : ℕ) (moved : List ℕ) (q : Party) (ss : List Shares) (shown : List ℕ) → AllZip IsLong (map (length_of l) moved) ss
    → ((k : ℕ) → k < length moved → slice_index_or (map (length_of l) moved) k 0 ≡ n) → AllByRecursion (λ k. IsTrue (nat_lt k (length moved))) shown → AreShown n q ss shown
shown_long l n moved q ss [] z h i = tt
shown_long l n moved q ss (k ∷ ks) z h i = (
  let lt = below k (length moved) i.0 in
      (zip_at IsLong (map (length_of l) moved) ss k 0 nothing z (omega (arith, length-map moved (length_of l), lt))).each (before q) ∙ h k lt,
  shown_long l n moved q ss ks z h i.1,
)

-- how many words the shown shares have
pub shown_count : (n : ℕ) (q : Party) (y : Moving) (shown : List ℕ) → AreShown n q y.shares shown → length (flat_map (at (before q)) (shown_shares y shown)) ≡ length shown * n
shown_count n q y [] h = omega arith
shown_count n q y (k ∷ ks) h =
    let w = at (before q) (slice_index_or y.shares k nothing) in
    let more = shown_count n q y ks h.1 in
    let times = suc-mul (length ks) n in
    let here : length w ≡ n = h.0 in
    omega (arith, length-append w (flat_map (at (before q)) (shown_shares y ks)))

module _ (lengths : LaneLengths) (v q : Party) (m : Machine) (n : ℕ) (moved shown : List ℕ) (ds : ThreeTapes) (orders : (p : Party) → HasItems n (order_in (at p ds))) where
  abbrev y0 : Moving
  y0 = moving m moved ds

  abbrev y1 : Moving
  y1 = first_phase n ds y0

  abbrev y2 : Moving
  y2 = second_phase n ds y0

  abbrev y3 : Moving
  y3 = third_phase n ds y0

  abbrev w1 : Links
  w1 = phase_words First (order_in ds.first) n y0

  abbrev w2 : Links
  w2 = phase_words Second (order_in ds.second) n y1

  abbrev w3 : Links
  w3 = phase_words Third (order_in ds.third) n y2

  abbrev pub last_words : Links
  last_words = message (next q) q (flat_map (at (before q)) (shown_shares y3 shown))

  abbrev pub words : Links
  words = reveal_words q n shown ds y0

  abbrev g : Given
  g = given_in v ds words

  -- the words of the last stages
  abbrev r3 : Three (List ℕ)
  r3 = received_by v last_words

  abbrev r2 : Three (List ℕ)
  r2 = joined (received_by v w3) r3

  abbrev r1 : Three (List ℕ)
  r1 = joined (received_by v w2) r2

  r0_is : received_by v words ≡ joined (received_by v w1) r1
  r0_is =
      received_behind v w1 (behind_on w2 (behind_on w3 last_words))
      ∙ ap (joined (received_by v w1))
      (received_behind v w2 (behind_on w3 last_words) ∙ ap (joined (received_by v w2)) (received_behind v w3 last_words))

  module _ (x : Three (List ℕ)) (t : Three ℕ) where
    abbrev x0 : PartMoving
    x0 = part_moving (held v m x t) moved g

    x0_is : x0 ≡ moving_in v y0 (joined (received_by v w1) r1)
    x0_is = moving_is v m x t moved ds words ∙ ap (moving_in v y0) r0_is

    x1_is : part_first v n g x0 ≡ moving_in v y1 r1
    x1_is =
        order_in_phase v First ds words n x0
        ∙ (ap (part_phase v First (order_in ds.first) n) x0_is ∙ phase_in lengths (order_in ds.first) n y0 r1 (orders First).long v First)

    x2_is : part_second v n g x0 ≡ moving_in v y2 r2
    x2_is =
        order_in_phase v Second ds words n (part_first v n g x0)
        ∙ (ap (part_phase v Second (order_in ds.second) n) x1_is ∙ phase_in lengths (order_in ds.second) n y1 r2 (orders Second).long v Second)

    pub x3_is : part_third v n g x0 ≡ moving_in v y3 r3
    x3_is =
        order_in_phase v Third ds words n (part_second v n g x0)
        ∙ (ap (part_phase v Third (order_in ds.third) n) x2_is ∙ phase_in lengths (order_in ds.third) n y2 r3 (orders Third).long v Third)

    pub s1_is : phase_sends v First (held_order v First g) n x0 ≡ at v w1
    s1_is =
        order_in_sends v First ds words n x0
        ∙ (ap (phase_sends v First (order_in ds.first) n) x0_is ∙ phase_sent (order_in ds.first) n y0 (joined (received_by v w1) r1) v First)

    pub s2_is : phase_sends v Second (held_order v Second g) n (part_first v n g x0) ≡ at v w2
    s2_is =
        order_in_sends v Second ds words n (part_first v n g x0)
        ∙ (ap (phase_sends v Second (order_in ds.second) n) x1_is ∙ phase_sent (order_in ds.second) n y1 r1 v Second)

    pub s3_is : phase_sends v Third (held_order v Third g) n (part_second v n g x0) ≡ at v w3
    s3_is =
        order_in_sends v Third ds words n (part_second v n g x0)
        ∙ (ap (phase_sends v Third (order_in ds.third) n) x2_is ∙ phase_sent (order_in ds.third) n y2 r2 v Third)

  pub counted : (c : ℕ) → length moved ≡ c → (k : Party)
      → (length (link k v w1) ≡ at k (phase_takes v First (c * n)))
      × (length (link k v w2) ≡ at k (phase_takes v Second (c * n)))
      × (length (link k v w3) ≡ at k (phase_takes v Third (c * n)))
  counted c e k =
      let c0 : length y0.shares ≡ c = length-map moved (shares m) ∙ e in
      let c1 : length y1.shares ≡ c = made_count n First (order_in ds.first) y0.shares y0.masks.third y0.masks.second ∙ c0 in
      let c2 : length y2.shares ≡ c = made_count n Second (order_in ds.second) y1.shares y1.masks.first y1.masks.third ∙ c1 in (
        count_phase k v First _ _ (c * n) (there_long lengths n First (order_in ds.first) y0.shares y0.masks.third (orders First).long ∙ ap (λ i. i * n) c0)
            (back_long lengths n First (order_in ds.first) y0.shares y0.masks.second (orders First).long ∙ ap (λ i. i * n) c0),
        count_phase k v Second _ _ (c * n) (there_long lengths n Second (order_in ds.second) y1.shares y1.masks.first (orders Second).long ∙ ap (λ i. i * n) c1)
            (back_long lengths n Second (order_in ds.second) y1.shares y1.masks.third (orders Second).long ∙ ap (λ i. i * n) c1),
        count_phase k v Third _ _ (c * n) (there_long lengths n Third (order_in ds.third) y2.shares y2.masks.second (orders Third).long ∙ ap (λ i. i * n) c2)
            (back_long lengths n Third (order_in ds.third) y2.shares y2.masks.first (orders Third).long ∙ ap (λ i. i * n) c2),
      )

module _ {T : Type 0} (accepts : T → List Shape → List Shape → Bool) (answer : T → List (List ℕ) → List (List ℕ)) where
  pub reveal_cut : LaneLengths → (v : Party) (l : Layout) (m : Machine) (to : ℕ) (moved shown : List ℕ) (ds : ThreeTapes) → IsReady accepts answer l m (Reveal to moved shown) ds
      → IsCut accepts answer v l m (Reveal to moved shown) ds
  reveal_cut lengths v l m to moved shown ds h =
      let q = party_of to in
      let n = rows_moved l moved in
      let y = third_phase n ds (moving m moved ds) in
      let one = both (is_party to && move_together l moved && not (is_empty shown)) (list_all (λ k. nat_lt k (length moved)) shown) h.step in
      let two = both (is_party to && move_together l moved) (not (is_empty shown)) one.0 in
      let three = both (is_party to) (move_together l moved) two.0 in
      let four = both (not (is_empty moved)) (list_all (λ r. is_register l r && (length_of l r == n)) moved) three.1 in
      let rows = λ (k : ℕ) (i : k < length moved). row_lengths l n moved k (all_hold (λ r. is_register l r && (length_of l r == n)) moved four.1) i in
      let made = zip_behind IsLong l.registers (map (length_of l) moved) m.registers y.shares h.long h.made in
      let are = shown_long l n moved q y.shares shown made rows (all_hold (λ k. nat_lt k (length moved)) shown one.1) in
      let orders = reveal_orders (length moved) n ds h.draws in
      let words = reveal_words q n shown ds (moving m moved ds) in
      let last = message (next q) q (flat_map (at (before q)) (shown_shares y shown)) in
      let g = given_in v ds words in
      record {
        part = λ x t.
            let px = x3_is lengths v q m n moved shown ds orders x t in
            let p = part_third v n g (part_moving (held v m x t) moved g) in
            let pairs = more_pairs v m x t p.pairs y.shares (ap (λ z. z.pairs) px) in
            let slots = λ (e : same_party v q ≡ true).
            opened_slots v q n y p shown px e are in
            ap (λ a. with_own_slots (same_party v q) a (revealed_slots v n p shown (at (next v) p.received))) pairs
            ∙ own_slots v q (with_shares m y.shares) x t (revealed_slots v n p shown (at (next v) p.received)) (map opened (shown_shares y shown)) slots;
        sent = λ x t.
            let px = x3_is lengths v q m n moved shown ds orders x t in
            same_four _ _ _ _ _ _ _ _ (s1_is lengths v q m n moved shown ds orders x t) (s2_is lengths v q m n moved shown ds orders x t)
            (s3_is lengths v q m n moved shown ds orders x t)
            (ap (λ p. when_sent (same_party v (next q)) (put q (flat_map (λ k. (slice_index_or p.pairs k no_pair).following) shown) nothing)) px ∙ shown_sent v q y shown);
        count = λ k.
            let c = counted lengths v q m n moved shown ds orders (length moved) refl k in
            (c.0, (c.1, (c.2, (count_message k v (next q) q (flat_map (at (before q)) (shown_shares y shown)) (length shown * n) (shown_count n q y shown are), tt))));
        order = refl;
      } where
        opened_slots : (v q : Party) (n : ℕ) (y : Moving) (p : PartMoving) (shown : List ℕ)
            → p ≡ moving_in v y (received_by v (message (next q) q (flat_map (at (before q)) (shown_shares y shown)))) → same_party v q ≡ true → AreShown n q y.shares shown
            → revealed_slots v n p shown (at (next v) p.received) ≡ map opened (shown_shares y shown)
        opened_slots v q n y p shown e same are = by v q same e are where
          last : (u : Party) → at (next u) (received_by u (message (next u) u (flat_map (at (before u)) (shown_shares y shown)))) ≡ flat_map (at (before u)) (shown_shares y shown) ++ []
          last u = words_told u (next u) (flat_map (at (before u)) (shown_shares y shown)) u (itself u) ∙ sym (append-nil _)
            where
              itself : (u : Party) → same_party u u ≡ true
              itself First = refl
              itself Second = refl
              itself Third = refl

          at_itself : (u : Party) → p ≡ moving_in u y (received_by u (message (next u) u (flat_map (at (before u)) (shown_shares y shown)))) → AreShown n u y.shares shown
              → revealed_slots u n p shown (at (next u) p.received) ≡ map opened (shown_shares y shown)
          at_itself u e are =
              let got = received_by u (message (next u) u (flat_map (at (before u)) (shown_shares y shown))) in
              ap (λ z. revealed_slots u n z shown (at (next u) z.received)) e
              ∙ (ap (revealed_slots u n (moving_in u y got) shown) (last u) ∙ revealed_is u n y got shown [] are)

          by : (v q : Party) → same_party v q ≡ true → p ≡ moving_in v y (received_by v (message (next q) q (flat_map (at (before q)) (shown_shares y shown))))
              → AreShown n q y.shares shown → revealed_slots v n p shown (at (next v) p.received) ≡ map opened (shown_shares y shown)
          by First First same e are = at_itself First e are
          by Second Second same e are = at_itself Second e are
          by Third Third same e are = at_itself Third e are
          by First Second same e are = absurd (true_apart same)
          by First Third same e are = absurd (true_apart same)
          by Second First same e are = absurd (true_apart same)
          by Second Third same e are = absurd (true_apart same)
          by Third First same e are = absurd (true_apart same)
          by Third Second same e are = absurd (true_apart same)
