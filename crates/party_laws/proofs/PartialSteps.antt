-- A step at a party on words of which more are to come: it sends the same words, as far as it comes.
use Rattle.std.proofs.Common.{◌≡◌, ℕ, zero, suc, ◌*◌, ◌-◌, ◌≤◌, Bool, true, false, List, [], ◌∷◌, ◌++◌, length, take, refl, sym, subst, ap, ◌∙◌, arith}
use Rattle.std.specs.Prelude.{◌&&◌, not, nat_le, slice_index_or}
use Rattle.std.specs.List.{flat_map}
use Rattle.std.proofs.lemmas.Bool.{leb-true, le-leb}
use Rattle.std.proofs.lemmas.List.{take-append-le, length-map, length-append}
use Rattle.lanes.specs.declared.party.Party.{Party}
use Rattle.lanes.specs.declared.party.Party.TheVariants.{First, Second, Third}
use Rattle.lanes.specs.declared.three.Three.{Three}
use Rattle.lanes.specs.Party.{next, before}
use Rattle.lanes.specs.Three.{at, put}
use Rattle.step_lists.specs.declared.step.Step.{Step}
use Rattle.step_lists.specs.declared.step.Step.TheVariants.{Const, Lin, And, Share, Reveal, Steer, Tell, Work, Flag}
use Rattle.step_lists.specs.Layout.{Layout, party_of, rows_moved}
use Rattle.step_lists.specs.Draws.{ThreeTapes, joined, nothing}
use Rattle.step_lists.specs.Seen.{same_party}
use Rattle.step_lists.specs.Open.{item}
use Rattle.step_lists.specs.Part.{Pair, Part, Given, PartMoving, count_from, takes_from, when, phase_takes, stage_sends, part_moving, part_first, part_second, part_third, part_phase, phase_sends, part_drawn, held_order, steered, behind_order, no_pair, when_sent, is_bad_order, is_order, takes_bad_order, pair_at}
use Rattle.party_laws.specs.StageWords.{given_with, StagesAreThere}
use Rattle.party_laws.proofs.Lists.{true_apart, same_two, same_three_of, same_four}
use Rattle.party_laws.proofs.Threes.{at_joined, more_count, one_count}
use Rattle.party_laws.proofs.Partial.{coming, AreThere, phase_partial, sends_same, phase_count, phase_left, behind_partial, behind_coming, behind_left, order_there}
use Rattle.party_laws.proofs.SteerStep.{private_same, got_order}

-- ---- Reveal

module _ (v : Party) (a : Part) (n c : ℕ) (moved : List ℕ) (ds : ThreeTapes) (r more : Three (List ℕ)) (count : length moved * n ≡ c) where
  abbrev few : Given
  few = given_with v ds r

  abbrev all : Given
  all = given_with v ds (joined r more)

  abbrev x0 : PartMoving
  x0 = part_moving a moved few

  abbrev x1 : PartMoving
  x1 = part_first v n few x0

  abbrev x2 : PartMoving
  x2 = part_second v n few x0

  abbrev x3 : PartMoving
  x3 = part_third v n few x0

  words0 : length x0.pairs * n ≡ c
  words0 = ap (λ k. k * n) (length-map moved (pair_at a)) ∙ count

  words1 : length x1.pairs * n ≡ c
  words1 = ap (λ k. k * n) (phase_count v First (held_order v First few) n x0) ∙ words0

  words2 : length x2.pairs * n ≡ c
  words2 = ap (λ k. k * n) (phase_count v Second (held_order v Second few) n x1) ∙ words1

  left1 : (q : Party) → length (at q x1.received) ≡ length (at q r) - at q (phase_takes v First c)
  left1 q = phase_left v First (held_order v First few) n x0 q ∙ ap (λ k. length (at q r) - at q (phase_takes v First k)) words0

  left2 : (q : Party) → length (at q x2.received) ≡ length (at q x1.received) - at q (phase_takes v Second c)
  left2 q = phase_left v Second (held_order v Second few) n x1 q ∙ ap (λ k. length (at q x1.received) - at q (phase_takes v Second k)) words1

  first_is : AreThere (phase_takes v First c) r → part_first v n all (part_moving a moved all) ≡ coming x1 (joined x1.received more)
  first_is h = phase_partial (held_order v First few) n x0 r more v First (subst (λ k. AreThere (phase_takes v First k) r) (sym words0) h)

  second_is : AreThere (phase_takes v First c) r → AreThere (phase_takes v Second c) x1.received → part_second v n all (part_moving a moved all) ≡ coming x2 (joined x2.received more)
  second_is h i =
      ap (part_phase v Second (held_order v Second few) n) (first_is h)
      ∙ phase_partial (held_order v Second few) n x1 x1.received more v Second (subst (λ k. AreThere (phase_takes v Second k) x1.received) (sym words1) i)

  third_is : AreThere (phase_takes v First c) r → AreThere (phase_takes v Second c) x1.received → AreThere (phase_takes v Third c) x2.received
      → part_third v n all (part_moving a moved all) ≡ coming x3 (joined x3.received more)
  third_is h i j =
      ap (part_phase v Third (held_order v Third few) n) (second_is h i)
      ∙ phase_partial (held_order v Third few) n x2 x2.received more v Third (subst (λ k. AreThere (phase_takes v Third k) x2.received) (sym words2) j)

  pub first_sent : phase_sends v First (held_order v First few) n x0 ≡ phase_sends v First (held_order v First all) n (part_moving a moved all)
  first_sent = sends_same v First (held_order v First few) n x0 r (joined r more)

  pub second_sent : AreThere (phase_takes v First c) r
      → phase_sends v Second (held_order v Second few) n x1 ≡ phase_sends v Second (held_order v Second all) n (part_first v n all (part_moving a moved all))
  second_sent h =
      sends_same v Second (held_order v Second few) n x1 x1.received (joined x1.received more) ∙ ap (phase_sends v Second (held_order v Second few) n) (sym (first_is h))

  pub third_sent : AreThere (phase_takes v First c) r → AreThere (phase_takes v Second c) x1.received
      → phase_sends v Third (held_order v Third few) n x2 ≡ phase_sends v Third (held_order v Third all) n (part_second v n all (part_moving a moved all))
  third_sent h i =
      sends_same v Third (held_order v Third few) n x2 x2.received (joined x2.received more) ∙ ap (phase_sends v Third (held_order v Third few) n) (sym (second_is h i))

  pub third_pairs : AreThere (phase_takes v First c) r → AreThere (phase_takes v Second c) x1.received → AreThere (phase_takes v Third c) x2.received
      → x3.pairs ≡ (part_third v n all (part_moving a moved all)).pairs
  third_pairs h i j = ap (λ x. x.pairs) (sym (third_is h i j))

  -- the words of the first, the second and the third phase are there
  pub there1 : ((q : Party) → count_from q (phase_takes v First c ∷ []) ≤ length (at q r)) → AreThere (phase_takes v First c) r
  there1 h q = omega (arith, h q, one_count q (phase_takes v First c))

  pub there2 : ((q : Party) → count_from q (phase_takes v First c ∷ phase_takes v Second c ∷ []) ≤ length (at q r))
      → AreThere (phase_takes v First c) r × AreThere (phase_takes v Second c) x1.received
  there2 h =
      let s = λ (q : Party). more_count q (phase_takes v First c) (phase_takes v Second c ∷ []) in
      let t = λ (q : Party). one_count q (phase_takes v Second c) in
      (λ q. omega (arith, h q, s q), λ q. omega (arith, h q, s q, t q, left1 q))

  pub there3 : ((q : Party) → count_from q (phase_takes v First c ∷ phase_takes v Second c ∷ phase_takes v Third c ∷ []) ≤ length (at q r))
      → AreThere (phase_takes v First c) r × AreThere (phase_takes v Second c) x1.received × AreThere (phase_takes v Third c) x2.received
  there3 h =
      let s = λ (q : Party). more_count q (phase_takes v First c) (phase_takes v Second c ∷ phase_takes v Third c ∷ []) in
      let t = λ (q : Party). more_count q (phase_takes v Second c) (phase_takes v Third c ∷ []) in
      let u = λ (q : Party). one_count q (phase_takes v Third c) in
      (λ q. omega (arith, h q, s q), λ q. omega (arith, h q, s q, t q, left1 q), λ q. omega (arith, h q, s q, t q, u q, left1 q, left2 q))

-- ---- what a step sends, as far as it comes

-- three stages and more of four
three_of_four : (q : Party) (t u w z : Three ℕ) (i k : ℕ) → count_from q (take (suc (suc (suc i))) (t ∷ u ∷ w ∷ z ∷ [])) ≤ k → count_from q (t ∷ u ∷ w ∷ []) ≤ k
three_of_four q t u w z i k h =
    let rest = take i (z ∷ []) in
    omega (arith, h, more_count q t (u ∷ w ∷ rest), more_count q u (w ∷ rest), more_count q w rest, more_count q t (u ∷ w ∷ []), more_count q u (w ∷ []), one_count q w)

two_of_three : (q : Party) (t u w : Three ℕ) (i k : ℕ) → count_from q (take (suc (suc i)) (t ∷ u ∷ w ∷ [])) ≤ k → count_from q (t ∷ u ∷ []) ≤ k
two_of_three q t u w i k h =
    let rest = take i (w ∷ []) in
    omega (arith, h, more_count q t (u ∷ rest), more_count q u rest, more_count q t (u ∷ []), one_count q u)

-- what is sent in the last stage of a Reveal
abbrev last_sent : Party → ℕ → List ℕ → List Pair → Three (List ℕ)
last_sent v to shown ps = when_sent (same_party v (next (party_of to))) (put (party_of to) (flat_map (λ k. (slice_index_or ps k no_pair).following) shown) nothing)

module _ (T : Type 0) (v : Party) (l : Layout) (a : Part) (to : ℕ) (moved shown : List ℕ) (ds : ThreeTapes) (r more : Three (List ℕ)) where
  abbrev n : ℕ
  n = rows_moved l moved

  abbrev c : ℕ
  c = length moved * n

  abbrev sent_on : Three (List ℕ) → List (Three (List ℕ))
  sent_on words = stage_sends {T = T} v l a (Reveal to moved shown) (given_with v ds words)

  pub reveal_sends : (i : ℕ) → StagesAreThere {T = T} v l (Reveal to moved shown) i r → take (suc i) (sent_on r) ≡ take (suc i) (sent_on (joined r more))
  reveal_sends zero h = ap (λ x. x ∷ []) (first_sent v a n c moved ds r more refl)
  reveal_sends (suc zero) h =
      let one = there1 v a n c moved ds r more refl h in
      same_two _ _ _ _ (first_sent v a n c moved ds r more refl) (second_sent v a n c moved ds r more refl one)
  reveal_sends (suc (suc zero)) h =
      let t = there2 v a n c moved ds r more refl h in
      same_three_of _ _ _ _ _ _ (first_sent v a n c moved ds r more refl) (second_sent v a n c moved ds r more refl t.0) (third_sent v a n c moved ds r more refl t.0 t.1)
  reveal_sends (suc (suc (suc i))) h =
      let last = when (same_party v (party_of to)) (takes_from (next (party_of to)) (length shown * n)) in
      let t =
      there3 v a n c moved ds r more refl (λ q. three_of_four q (phase_takes v First c) (phase_takes v Second c) (phase_takes v Third c) last i (length (at q r)) (h q)) in
      ap (take (suc (suc (suc (suc i)))))
      (same_four _ _ _ _ _ _ _ _ (first_sent v a n c moved ds r more refl) (second_sent v a n c moved ds r more refl t.0) (third_sent v a n c moved ds r more refl t.0 t.1)
      (ap (last_sent v to shown) (third_pairs v a n c moved ds r more refl t.0 t.1 t.2)))

-- ---- Steer

pub bad_partial : (b : Bool) (n : ℕ) (w more : List ℕ) → (b && is_bad_order n (w ++ more)) ≡ false → (b && is_bad_order n w) ≡ false
bad_partial false n w more h = refl
bad_partial true n w more h = by (nat_le n (length w)) refl where
  by : (t : Bool) → nat_le n (length w) ≡ t → (t && not (is_order (take n w))) ≡ false
  by false e = refl
  by true e =
      let within = leb-true n (length w) e in
      let more_within : nat_le n (length (w ++ more)) ≡ true = le-leb n (length (w ++ more)) (omega (arith, within, length-append w more)) in
      ap (λ x. not (is_order x)) (sym (take-append-le n w more within))
      ∙ (ap (λ t. t && not (is_order (take n (w ++ more)))) (sym more_within) ∙ h)

order_sent : (v p : Party) (secret : List ℕ) (ds : ThreeTapes) (r t : Three (List ℕ))
    → when_sent (same_party v p) (put (before v) (steered v p secret (given_with v ds r)) nothing) ≡ when_sent (same_party v p) (put (before v) (steered v p secret (given_with v ds t)) nothing)
order_sent First First secret ds r t = refl
order_sent First Second secret ds r t = refl
order_sent First Third secret ds r t = refl
order_sent Second First secret ds r t = refl
order_sent Second Second secret ds r t = refl
order_sent Second Third secret ds r t = refl
order_sent Third First secret ds r t = refl
order_sent Third Second secret ds r t = refl
order_sent Third Third secret ds r t = refl

own_steered : (v p : Party) (secret : List ℕ) (ds : ThreeTapes) (r t : Three (List ℕ)) → same_party v p ≡ true → steered v p secret (given_with v ds r) ≡ steered v p secret (given_with v ds t)
own_steered First First secret ds r t e = refl
own_steered Second Second secret ds r t e = refl
own_steered Third Third secret ds r t e = refl
own_steered First Second secret ds r t e = absurd (true_apart e)
own_steered First Third secret ds r t e = absurd (true_apart e)
own_steered Second First secret ds r t e = absurd (true_apart e)
own_steered Second Third secret ds r t e = absurd (true_apart e)
own_steered Third First secret ds r t e = absurd (true_apart e)
own_steered Third Second secret ds r t e = absurd (true_apart e)

module _ (T : Type 0) (v : Party) (l : Layout) (a : Part) (by s : ℕ) (moved : List ℕ) (ds : ThreeTapes) (r more : Three (List ℕ)) where
  abbrev p : Party
  p = party_of by

  abbrev rows : ℕ
  rows = rows_moved l moved

  abbrev all_rows : ℕ
  all_rows = length moved * rows

  abbrev secret : List ℕ
  secret = item a.slots s

  abbrev few_words : Given
  few_words = given_with v ds r

  abbrev all_of_them : Given
  all_of_them = given_with v ds (joined r more)

  abbrev z0 : PartMoving
  z0 = part_moving a moved few_words

  abbrev z1 : PartMoving
  z1 = behind_order v p rows z0

  abbrev z2 : PartMoving
  z2 = part_drawn v p rows few_words z0

  abbrev full0 : PartMoving
  full0 = part_moving a moved all_of_them

  abbrev first_takes : Three ℕ
  first_takes = when (same_party v (before p)) (takes_from p rows)

  moved_words : length z1.pairs * rows ≡ all_rows
  moved_words = ap (λ k. k * rows) (ap (λ x. length x.pairs) (behind_coming v p rows z0) ∙ length-map moved (pair_at a))

  behind_is : AreThere first_takes r → behind_order v p rows full0 ≡ coming z1 (joined z1.received more)
  behind_is h = behind_partial v p rows z0 r more (order_there v p rows r h)

  drawn_is : AreThere first_takes r → AreThere (phase_takes v (next p) all_rows) z1.received → part_drawn v p rows all_of_them full0 ≡ coming z2 (joined z2.received more)
  drawn_is h i =
      ap (part_phase v (next p) (held_order v (next p) few_words) rows) (behind_is h)
      ∙ phase_partial (held_order v (next p) few_words) rows z1 z1.received more v (next p)
      (subst (λ k. AreThere (phase_takes v (next p) k) z1.received) (sym moved_words) i)

  drawn_sent : phase_sends v (next p) (held_order v (next p) few_words) rows z1 ≡ phase_sends v (next p) (held_order v (next p) all_of_them) rows (behind_order v p rows full0)
  drawn_sent =
      ap (phase_sends v (next p) (held_order v (next p) few_words) rows) (behind_coming v p rows z0)
      ∙ (sends_same v (next p) (held_order v (next p) few_words) rows z0 z1.received (behind_order v p rows full0).received
      ∙ ap (phase_sends v (next p) (held_order v (next p) few_words) rows) (sym (behind_coming v p rows full0)))

  same_order : AreThere first_takes r → same_party v (before p) ≡ true → take rows (steered v p secret all_of_them) ≡ take rows (steered v p secret few_words)
  same_order h e =
      ap (take rows) (got_order v p secret all_of_them e)
      ∙ (ap (take rows) (at_joined p r more)
      ∙ (take-append-le rows (at p r) (at p more) (order_there v p rows r h e) ∙ ap (take rows) (sym (got_order v p secret few_words e))))

  private_sent : AreThere first_takes r → AreThere (phase_takes v (next p) all_rows) z1.received
      → phase_sends v p (take rows (steered v p secret few_words)) rows z2
      ≡ phase_sends v p (take rows (steered v p secret all_of_them)) rows (part_drawn v p rows all_of_them full0)
  private_sent h i =
      let few_order = take rows (steered v p secret few_words) in
      sends_same v p few_order rows z2 z2.received (joined z2.received more)
      ∙ (ap (phase_sends v p few_order rows) (sym (drawn_is h i))
      ∙ sym (private_same v p rows few_order (take rows (steered v p secret all_of_them)) (part_drawn v p rows all_of_them full0)
      (λ e. ap (take rows) (own_steered v p secret ds (joined r more) r e)) (same_order h)).1)

  abbrev steer_sent : Three (List ℕ) → List (Three (List ℕ))
  steer_sent words = stage_sends {T = T} v l a (Steer by s moved) (given_with v ds words)

  order_is_there : ((q : Party) → count_from q (first_takes ∷ phase_takes v (next p) all_rows ∷ []) ≤ length (at q r))
      → AreThere first_takes r × AreThere (phase_takes v (next p) all_rows) z1.received
  order_is_there h =
      let m = λ (q : Party). more_count q first_takes (phase_takes v (next p) all_rows ∷ []) in
      let o = λ (q : Party). one_count q (phase_takes v (next p) all_rows) in
      (λ q. omega (arith, h q, m q), λ q. omega (arith, h q, m q, o q, behind_left v p rows z0 q))

  pub steer_sends : (i : ℕ) → StagesAreThere {T = T} v l (Steer by s moved) i r → take (suc i) (steer_sent r) ≡ take (suc i) (steer_sent (joined r more))
  steer_sends zero h = ap (λ x. x ∷ []) (order_sent v p secret ds r (joined r more))
  steer_sends (suc zero) h = same_two _ _ _ _ (order_sent v p secret ds r (joined r more)) drawn_sent
  steer_sends (suc (suc i)) h =
      let t = order_is_there (λ q. two_of_three q first_takes (phase_takes v (next p) all_rows) (phase_takes v p all_rows) i (length (at q r)) (h q)) in
      ap (take (suc (suc (suc i)))) (same_three_of _ _ _ _ _ _ (order_sent v p secret ds r (joined r more)) drawn_sent (private_sent t.0 t.1))

-- ---- each kind of step

pub step_sends : {T : Type 0} (v : Party) (l : Layout) (a : Part) (s : Step T) (ds : ThreeTapes) (r more : Three (List ℕ)) (i : ℕ) → StagesAreThere v l s i r
    → take (suc i) (stage_sends v l a s (given_with v ds r)) ≡ take (suc i) (stage_sends v l a s (given_with v ds (joined r more)))
step_sends v l a (Const words) ds r more i h = refl
step_sends v l a (Lin op) ds r more i h = refl
step_sends v l a (And left right) ds r more i h = refl
step_sends v l a (Share p s) ds r more i h = refl
step_sends {T} v l a (Reveal to moved shown) ds r more i h = reveal_sends T v l a to moved shown ds r more i h
step_sends {T} v l a (Steer by s moved) ds r more i h = steer_sends T v l a by s moved ds r more i h
step_sends v l a (Tell source target s) ds r more i h = refl
step_sends v l a (Work p task takes gives) ds r more i h = refl
step_sends v l a (Flag p s) ds r more i h = refl

-- no bad order behind the first words, none in them
pub step_order : {T : Type 0} (v : Party) (l : Layout) (s : Step T) (ds : ThreeTapes) (r more : Three (List ℕ)) → takes_bad_order v l s (given_with v ds (joined r more)) ≡ false
    → takes_bad_order v l s (given_with v ds r) ≡ false
step_order v l (Const words) ds r more h = refl
step_order v l (Lin op) ds r more h = refl
step_order v l (And left right) ds r more h = refl
step_order v l (Share p s) ds r more h = refl
step_order v l (Reveal to moved shown) ds r more h = refl
step_order v l (Steer by s moved) ds r more h =
    bad_partial (same_party v (before (party_of by))) (rows_moved l moved) (at (party_of by) r) (at (party_of by) more)
    (ap (λ w. same_party v (before (party_of by)) && is_bad_order (rows_moved l moved) w) (sym (at_joined (party_of by) r more)) ∙ h)
step_order v l (Tell source target s) ds r more h = refl
step_order v l (Work p task takes gives) ds r more h = refl
step_order v l (Flag p s) ds r more h = refl
