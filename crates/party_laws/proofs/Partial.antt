-- A phase at a party on words of which more are to come: it does the same, and leaves the more behind what it leaves.
use Rattle.std.proofs.Common.{◌≡◌, ℕ, suc, ◌*◌, ◌-◌, ◌≤◌, true, List, [], ◌∷◌, ◌++◌, length, take, drop, refl, ap, ◌∙◌, arith}
use Rattle.std.proofs.Math.Nat.{suc-mul}
use Rattle.std.proofs.lemmas.List.{take-append-le, drop-append-le, length-drop}
use Rattle.lanes.specs.declared.party.Party.{Party}
use Rattle.lanes.specs.declared.party.Party.TheVariants.{First, Second, Third}
use Rattle.lanes.specs.declared.three.Three.{Three}
use Rattle.lanes.specs.Party.{before}
use Rattle.lanes.specs.Three.{at, put}
use Rattle.lanes.specs.Lanes.{xors}
use Rattle.step_lists.specs.Draws.{joined}
use Rattle.step_lists.specs.Seen.{same_party}
use Rattle.step_lists.specs.Part.{Pair, PartMoving, takes_nothing, takes_from, when, phase_takes, sent_by_j, sent_before_j, pairs_of_j, pairs_before_j, pairs_of_masks, part_phase, phase_sends, behind_order}

-- ---- registers

rest_is_there : (k n : ℕ) (w : List ℕ) → suc k * n ≤ length w → k * n ≤ length (drop n w)
rest_is_there k n w h =
    let e = suc-mul k n in
    omega (arith, length-drop n w)

first_is_there : (k n : ℕ) (w : List ℕ) → suc k * n ≤ length w → n ≤ length w
first_is_there k n w h =
    let e = suc-mul k n in
    omega arith

j_partial : (o : List ℕ) (n : ℕ) (ps : List Pair) (b w more : List ℕ) → length ps * n ≤ length w → pairs_of_j o n ps b (w ++ more) ≡ pairs_of_j o n ps b w
j_partial o n [] b w more h = refl
j_partial o n (p ∷ ps) b w more h =
    let sent = sent_by_j o p (take n b) in
    let rest = λ (got : List ℕ). pairs_of_j o n ps (drop n b) got in
    let there = first_is_there (length ps) n w h in
    ap (λ (got : List ℕ). record { own = xors got sent; following = take n b } ∷ rest (drop n (w ++ more))) (take-append-le n w more there)
    ∙ (ap (λ (got : List ℕ). record { own = xors (take n w) sent; following = take n b } ∷ rest got) (drop-append-le n w more there)
    ∙ ap (λ t. record { own = xors (take n w) sent; following = take n b } ∷ t) (j_partial o n ps (drop n b) (drop n w) more (rest_is_there (length ps) n w h)))

before_partial : (o : List ℕ) (n : ℕ) (ps : List Pair) (a w more : List ℕ) → length ps * n ≤ length w → pairs_before_j o n ps a (w ++ more) ≡ pairs_before_j o n ps a w
before_partial o n [] a w more h = refl
before_partial o n (p ∷ ps) a w more h =
    let sent = sent_before_j o p (take n a) in
    let rest = λ (got : List ℕ). pairs_before_j o n ps (drop n a) got in
    let there = first_is_there (length ps) n w h in
    ap (λ (got : List ℕ). record { own = take n a; following = xors sent got } ∷ rest (drop n (w ++ more))) (take-append-le n w more there)
    ∙ (ap (λ (got : List ℕ). record { own = take n a; following = xors sent (take n w) } ∷ rest got) (drop-append-le n w more there)
    ∙ ap (λ t. record { own = take n a; following = xors sent (take n w) } ∷ t) (before_partial o n ps (drop n a) (drop n w) more (rest_is_there (length ps) n w h)))

-- ---- a phase

-- with these words to come
abbrev pub coming : PartMoving → Three (List ℕ) → PartMoving
coming x r = record x { received = r }

-- the words that so much of each party is taken of are there
abbrev pub AreThere : Three ℕ → Three (List ℕ) → Type 0
AreThere t r = (q : Party) → at q t ≤ length (at q r)

-- on words that go on the phase does the same
abbrev pub GoesOnSame : (PartMoving → PartMoving) → PartMoving → Three (List ℕ) → Three (List ℕ) → Type 0
GoesOnSame f x r more = f (coming x (joined r more)) ≡ coming (f (coming x r)) (joined (f (coming x r)).received more)

abbrev part_by : List Pair → List ℕ → List ℕ → Three (List ℕ) → PartMoving
part_by ps a b r = record { pairs = ps; own = a; following = b; received = r }

same_pairs : (ps qs : List Pair) (a b : List ℕ) (r t : Three (List ℕ)) → ps ≡ qs → r ≡ t → part_by ps a b r ≡ part_by qs a b t
same_pairs ps qs a b r t e f = ap (λ x. part_by x a b r) e ∙ ap (part_by qs a b) f

module _ (o : List ℕ) (n : ℕ) (x : PartMoving) (r more : Three (List ℕ)) where
  abbrev k : ℕ
  k = length x.pairs * n

  pub phase_partial : (v j : Party) → AreThere (phase_takes v j k) r → GoesOnSame (part_phase v j o n) x r more
  phase_partial First First h =
      same_pairs _ _ x.own (drop k x.following) _ _ (j_partial o n x.pairs x.following r.third more.third (h Third))
      (ap (λ w. put Third w (joined r more)) (drop-append-le k r.third more.third (h Third)))
  phase_partial Second Second h =
      same_pairs _ _ x.own (drop k x.following) _ _ (j_partial o n x.pairs x.following r.first more.first (h First))
      (ap (λ w. put First w (joined r more)) (drop-append-le k r.first more.first (h First)))
  phase_partial Third Third h =
      same_pairs _ _ x.own (drop k x.following) _ _ (j_partial o n x.pairs x.following r.second more.second (h Second))
      (ap (λ w. put Second w (joined r more)) (drop-append-le k r.second more.second (h Second)))
  phase_partial Third First h =
      same_pairs _ _ (drop k x.own) x.following _ _ (before_partial o n x.pairs x.own r.first more.first (h First))
      (ap (λ w. put First w (joined r more)) (drop-append-le k r.first more.first (h First)))
  phase_partial First Second h =
      same_pairs _ _ (drop k x.own) x.following _ _ (before_partial o n x.pairs x.own r.second more.second (h Second))
      (ap (λ w. put Second w (joined r more)) (drop-append-le k r.second more.second (h Second)))
  phase_partial Second Third h =
      same_pairs _ _ (drop k x.own) x.following _ _ (before_partial o n x.pairs x.own r.third more.third (h Third))
      (ap (λ w. put Third w (joined r more)) (drop-append-le k r.third more.third (h Third)))
  phase_partial Second First h = refl
  phase_partial Third Second h = refl
  phase_partial First Third h = refl

-- what it sends doesn't look at what it receives
pub sends_same : (v j : Party) (o : List ℕ) (n : ℕ) (x : PartMoving) (r t : Three (List ℕ)) → phase_sends v j o n (coming x r) ≡ phase_sends v j o n (coming x t)
sends_same First First o n x r t = refl
sends_same First Second o n x r t = refl
sends_same First Third o n x r t = refl
sends_same Second First o n x r t = refl
sends_same Second Second o n x r t = refl
sends_same Second Third o n x r t = refl
sends_same Third First o n x r t = refl
sends_same Third Second o n x r t = refl
sends_same Third Third o n x r t = refl

-- ---- what a phase leaves

j_count : (o : List ℕ) (n : ℕ) (ps : List Pair) (b w : List ℕ) → length (pairs_of_j o n ps b w) ≡ length ps
j_count o n [] b w = refl
j_count o n (p ∷ ps) b w = ap suc (j_count o n ps (drop n b) (drop n w))

before_count : (o : List ℕ) (n : ℕ) (ps : List Pair) (a w : List ℕ) → length (pairs_before_j o n ps a w) ≡ length ps
before_count o n [] a w = refl
before_count o n (p ∷ ps) a w = ap suc (before_count o n ps (drop n a) (drop n w))

masks_count : (n : ℕ) (ps : List Pair) (b a : List ℕ) → length (pairs_of_masks n ps b a) ≡ length ps
masks_count n [] b a = refl
masks_count n (p ∷ ps) b a = ap suc (masks_count n ps (drop n b) (drop n a))

pub phase_count : (v j : Party) (o : List ℕ) (n : ℕ) (x : PartMoving) → length (part_phase v j o n x).pairs ≡ length x.pairs
phase_count First First o n x = j_count o n x.pairs x.following x.received.third
phase_count Second Second o n x = j_count o n x.pairs x.following x.received.first
phase_count Third Third o n x = j_count o n x.pairs x.following x.received.second
phase_count Third First o n x = before_count o n x.pairs x.own x.received.first
phase_count First Second o n x = before_count o n x.pairs x.own x.received.second
phase_count Second Third o n x = before_count o n x.pairs x.own x.received.third
phase_count Second First o n x = masks_count n x.pairs x.own x.following
phase_count Third Second o n x = masks_count n x.pairs x.own x.following
phase_count First Third o n x = masks_count n x.pairs x.own x.following

-- what is left of the words of one party of which so many are dropped
dropped_long : (p q : Party) (k : ℕ) (r : Three (List ℕ)) → length (at q (put p (drop k (at p r)) r)) ≡ length (at q r) - at q (takes_from p k)
dropped_long First First k r = length-drop k r.first
dropped_long Second Second k r = length-drop k r.second
dropped_long Third Third k r = length-drop k r.third
dropped_long First Second k r = omega arith
dropped_long First Third k r = omega arith
dropped_long Second First k r = omega arith
dropped_long Second Third k r = omega arith
dropped_long Third First k r = omega arith
dropped_long Third Second k r = omega arith

nothing_dropped : (q : Party) (r : Three (List ℕ)) → length (at q r) ≡ length (at q r) - at q takes_nothing
nothing_dropped First r = omega arith
nothing_dropped Second r = omega arith
nothing_dropped Third r = omega arith

pub phase_left : (v j : Party) (o : List ℕ) (n : ℕ) (x : PartMoving) (q : Party)
    → length (at q (part_phase v j o n x).received) ≡ length (at q x.received) - at q (phase_takes v j (length x.pairs * n))
phase_left First First o n x q = dropped_long Third q (length x.pairs * n) x.received
phase_left Second Second o n x q = dropped_long First q (length x.pairs * n) x.received
phase_left Third Third o n x q = dropped_long Second q (length x.pairs * n) x.received
phase_left Third First o n x q = dropped_long First q (length x.pairs * n) x.received
phase_left First Second o n x q = dropped_long Second q (length x.pairs * n) x.received
phase_left Second Third o n x q = dropped_long Third q (length x.pairs * n) x.received
phase_left Second First o n x q = nothing_dropped q x.received
phase_left Third Second o n x q = nothing_dropped q x.received
phase_left First Third o n x q = nothing_dropped q x.received

-- ---- behind the words of a Steer's order

pub behind_partial : (v p : Party) (n : ℕ) (x : PartMoving) (r more : Three (List ℕ)) → (same_party v (before p) ≡ true → n ≤ length (at p r)) → GoesOnSame (behind_order v p n) x r more
behind_partial Third First n x r more h = ap (λ w. coming x (put First w (joined r more))) (drop-append-le n r.first more.first (h refl))
behind_partial First Second n x r more h = ap (λ w. coming x (put Second w (joined r more))) (drop-append-le n r.second more.second (h refl))
behind_partial Second Third n x r more h = ap (λ w. coming x (put Third w (joined r more))) (drop-append-le n r.third more.third (h refl))
behind_partial First First n x r more h = refl
behind_partial Second First n x r more h = refl
behind_partial Second Second n x r more h = refl
behind_partial Third Second n x r more h = refl
behind_partial Third Third n x r more h = refl
behind_partial First Third n x r more h = refl

-- it changes nothing but what is received
pub behind_coming : (v p : Party) (n : ℕ) (x : PartMoving) → behind_order v p n x ≡ coming x (behind_order v p n x).received
behind_coming Third First n x = refl
behind_coming First Second n x = refl
behind_coming Second Third n x = refl
behind_coming First First n x = refl
behind_coming Second First n x = refl
behind_coming Second Second n x = refl
behind_coming Third Second n x = refl
behind_coming Third Third n x = refl
behind_coming First Third n x = refl

pub behind_left : (v p : Party) (n : ℕ) (x : PartMoving) (q : Party)
    → length (at q (behind_order v p n x).received) ≡ length (at q x.received) - at q (when (same_party v (before p)) (takes_from p n))
behind_left Third First n x q = dropped_long First q n x.received
behind_left First Second n x q = dropped_long Second q n x.received
behind_left Second Third n x q = dropped_long Third q n x.received
behind_left First First n x q = nothing_dropped q x.received
behind_left Second First n x q = nothing_dropped q x.received
behind_left Second Second n x q = nothing_dropped q x.received
behind_left Third Second n x q = nothing_dropped q x.received
behind_left Third Third n x q = nothing_dropped q x.received
behind_left First Third n x q = nothing_dropped q x.received

-- the first stage's words are there
pub order_there : (v p : Party) (n : ℕ) (r : Three (List ℕ)) → AreThere (when (same_party v (before p)) (takes_from p n)) r → same_party v (before p) ≡ true → n ≤ length (at p r)
order_there Third First n r h e = h First
order_there First Second n r h e = h Second
order_there Second Third n r h e = h Third
order_there First First n r h e = absurd (cc)
order_there Second First n r h e = absurd (cc)
order_there Second Second n r h e = absurd (cc)
order_there Third Second n r h e = absurd (cc)
order_there Third Third n r h e = absurd (cc)
order_there First Third n r h e = absurd (cc)
