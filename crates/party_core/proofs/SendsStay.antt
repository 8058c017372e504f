-- What a stage sends doesn't depend on words that come in it or later.
use Rattle.std.proofs.Common.{◌≡◌, ℕ, zero, suc, ◌+◌, ◌-◌, ◌*◌, ◌≤◌, Bool, true, false, cond, List, [], ◌∷◌, ◌++◌, length, take, drop, refl, sym, ap, subst, ◌∙◌, arith}
use Rattle.std.proofs.Math.Nat.{suc-mul}
use Rattle.std.specs.Prelude.{slice_index_or}
use Rattle.std.specs.List.{flat_map}
use Rattle.std.proofs.lemmas.List.{take-append-le, drop-append-le, length-drop, length-map}
use Rattle.lanes.specs.declared.party.Party.{Party}
use Rattle.lanes.specs.declared.party.Party.TheVariants.{First, Second, Third}
use Rattle.lanes.specs.declared.three.Three.{Three}
use Rattle.lanes.specs.Party.{next, before}
use Rattle.lanes.specs.Three.{at, put}
use Rattle.lanes.specs.Lanes.{xors}
use Rattle.step_lists.specs.declared.step.Step.{Step}
use Rattle.step_lists.specs.declared.step.Step.TheVariants.{Const, Lin, And, Share, Reveal, Steer, Tell, Work, Flag}
use Rattle.step_lists.specs.Layout.{Layout, party_of, rows_moved}
use Rattle.step_lists.specs.Draws.{nothing}
use Rattle.step_lists.specs.Seen.{same_party}
use Rattle.step_lists.specs.Open.{item}
use Rattle.step_lists.specs.Part.{Given, Part, Pair, PartMoving, no_pair, pair_at, part_moving, part_phase, part_first, part_second, part_third, part_drawn, behind_order, held_order, steered, phase_sends, pairs_of_j, pairs_before_j, pairs_of_masks, sent_by_j, sent_before_j, stage_sends, stage_takes, phase_takes, takes_from, when, when_sent, count_from}
use Rattle.party_core.specs.CoreView.{with_words}
use Rattle.party_core.proofs.Progressing.{count_more}

-- ---- pairs behind a phase, on as many words as it takes or more

mul_more : (m n k : ℕ) → suc m * n ≤ k → (n ≤ k) × (m * n ≤ k - n)
mul_more m n k h = let e = suc-mul m n in (omega (arith, e, h), omega (arith, e, h))

pub j_stays : (order : List ℕ) (n : ℕ) (ps : List Pair) (b got more : List ℕ) → length ps * n ≤ length got → pairs_of_j order n ps b (got ++ more) ≡ pairs_of_j order n ps b got
j_stays order n [] b got more h = refl
j_stays order n (p ∷ ps) b got more h =
    let k = mul_more (length ps) n (length got) h in
    let e = length-drop n got in
    ap (λ x. record { own = xors x (sent_by_j order p (take n b)); following = take n b } ∷ pairs_of_j order n ps (drop n b) (drop n (got ++ more))) (take-append-le n got more k.0)
    ∙ ap (λ x. record { own = xors (take n got) (sent_by_j order p (take n b)); following = take n b } ∷ pairs_of_j order n ps (drop n b) x) (drop-append-le n got more k.0)
    ∙ ap (λ x. record { own = xors (take n got) (sent_by_j order p (take n b)); following = take n b } ∷ x) (j_stays order n ps (drop n b) (drop n got) more (omega (arith, k.1, e)))

pub before_stays : (order : List ℕ) (n : ℕ) (ps : List Pair) (a got more : List ℕ) → length ps * n ≤ length got → pairs_before_j order n ps a (got ++ more) ≡ pairs_before_j order n ps a got
before_stays order n [] a got more h = refl
before_stays order n (p ∷ ps) a got more h =
    let k = mul_more (length ps) n (length got) h in
    let e = length-drop n got in
    ap (λ x. record { own = take n a; following = xors (sent_before_j order p (take n a)) x } ∷ pairs_before_j order n ps (drop n a) (drop n (got ++ more))) (take-append-le n got more k.0)
    ∙ ap (λ x. record { own = take n a; following = xors (sent_before_j order p (take n a)) (take n got) } ∷ pairs_before_j order n ps (drop n a) x) (drop-append-le n got more k.0)
    ∙ ap (λ x. record { own = take n a; following = xors (sent_before_j order p (take n a)) (take n got) } ∷ x) (before_stays order n ps (drop n a) (drop n got) more (omega (arith, k.1, e)))

-- a phase keeps the number of registers
pub j_count : (order : List ℕ) (n : ℕ) (ps : List Pair) (b got : List ℕ) → length (pairs_of_j order n ps b got) ≡ length ps
j_count order n [] b got = refl
j_count order n (p ∷ ps) b got = ap suc (j_count order n ps (drop n b) (drop n got))

pub before_count : (order : List ℕ) (n : ℕ) (ps : List Pair) (a got : List ℕ) → length (pairs_before_j order n ps a got) ≡ length ps
before_count order n [] a got = refl
before_count order n (p ∷ ps) a got = ap suc (before_count order n ps (drop n a) (drop n got))

pub masks_count : (n : ℕ) (ps : List Pair) (b a : List ℕ) → length (pairs_of_masks n ps b a) ≡ length ps
masks_count n [] b a = refl
masks_count n (p ∷ ps) b a = ap suc (masks_count n ps (drop n b) (drop n a))

-- ---- moving registers, with more words of a party behind those that came

abbrev pub moved_more : PartMoving → Party → List ℕ → PartMoving
moved_more x q words = record x { received = put q (at q x.received ++ words) x.received }

-- of which party a phase takes words, and that there are so many
abbrev pub HasPhase : Party → Party → ℕ → PartMoving → Type 0
HasPhase v j n x = (p : Party) → at p (phase_takes v j (length x.pairs * n)) ≤ length (at p x.received)

same_moving : (a b : PartMoving) → a.pairs ≡ b.pairs → a.own ≡ b.own → a.following ≡ b.following → a.received.first ≡ b.received.first → a.received.second ≡ b.received.second → a.received.third ≡ b.received.third → a ≡ b
same_moving a b p e f x y z =
    ap (λ o. record { pairs = o; own = a.own; following = a.following; received = a.received }) p
    ∙ ap (λ o. record { pairs = b.pairs; own = o; following = a.following; received = a.received }) e
    ∙ ap (λ o. record { pairs = b.pairs; own = b.own; following = o; received = a.received }) f
    ∙ ap (λ o. record { pairs = b.pairs; own = b.own; following = b.following; received = record { first = o; second = a.received.second; third = a.received.third } }) x
    ∙ ap (λ o. record { pairs = b.pairs; own = b.own; following = b.following; received = record { first = b.received.first; second = o; third = a.received.third } }) y
    ∙ ap (λ o. record { pairs = b.pairs; own = b.own; following = b.following; received = record { first = b.received.first; second = b.received.second; third = o } }) z

-- party j takes words of party j - 1, which lie in `got`
abbrev Taken : PartMoving → Party → ℕ → List ℕ → Type 0
Taken x p n got = got ≡ at p x.received

pub phase_stays : (v j : Party) (order : List ℕ) (n : ℕ) (x : PartMoving) (q : Party) (words : List ℕ) → HasPhase v j n x
    → part_phase v j order n (moved_more x q words) ≡ moved_more (part_phase v j order n x) q words
phase_stays First First order n x First words h = refl
phase_stays First First order n x Second words h = refl
phase_stays First First order n x Third words h =
    let k = h Third in
    same_moving _ _ (j_stays order n x.pairs x.following x.received.third words k) refl refl refl refl (drop-append-le (length x.pairs * n) x.received.third words k)
phase_stays First Second order n x First words h = refl
phase_stays First Second order n x Second words h =
    let k = h Second in
    same_moving _ _ (before_stays order n x.pairs x.own x.received.second words k) refl refl refl (drop-append-le (length x.pairs * n) x.received.second words k) refl
phase_stays First Second order n x Third words h = refl
phase_stays First Third order n x First words h = refl
phase_stays First Third order n x Second words h = refl
phase_stays First Third order n x Third words h = refl
phase_stays Second Second order n x First words h =
    let k = h First in
    same_moving _ _ (j_stays order n x.pairs x.following x.received.first words k) refl refl (drop-append-le (length x.pairs * n) x.received.first words k) refl refl
phase_stays Second Second order n x Second words h = refl
phase_stays Second Second order n x Third words h = refl
phase_stays Second Third order n x First words h = refl
phase_stays Second Third order n x Second words h = refl
phase_stays Second Third order n x Third words h =
    let k = h Third in
    same_moving _ _ (before_stays order n x.pairs x.own x.received.third words k) refl refl refl refl (drop-append-le (length x.pairs * n) x.received.third words k)
phase_stays Second First order n x First words h = refl
phase_stays Second First order n x Second words h = refl
phase_stays Second First order n x Third words h = refl
phase_stays Third Third order n x First words h = refl
phase_stays Third Third order n x Second words h =
    let k = h Second in
    same_moving _ _ (j_stays order n x.pairs x.following x.received.second words k) refl refl refl (drop-append-le (length x.pairs * n) x.received.second words k) refl
phase_stays Third Third order n x Third words h = refl
phase_stays Third First order n x First words h =
    let k = h First in
    same_moving _ _ (before_stays order n x.pairs x.own x.received.first words k) refl refl (drop-append-le (length x.pairs * n) x.received.first words k) refl refl
phase_stays Third First order n x Second words h = refl
phase_stays Third First order n x Third words h = refl
phase_stays Third Second order n x First words h = refl
phase_stays Third Second order n x Second words h = refl
phase_stays Third Second order n x Third words h = refl

-- ---- a phase leaves as many registers, and the words behind those that it takes

pub phase_count : (v j : Party) (order : List ℕ) (n : ℕ) (x : PartMoving) → length (part_phase v j order n x).pairs ≡ length x.pairs
phase_count First First order n x = j_count order n x.pairs x.following x.received.third
phase_count First Second order n x = before_count order n x.pairs x.own x.received.second
phase_count First Third order n x = masks_count n x.pairs x.own x.following
phase_count Second Second order n x = j_count order n x.pairs x.following x.received.first
phase_count Second Third order n x = before_count order n x.pairs x.own x.received.third
phase_count Second First order n x = masks_count n x.pairs x.own x.following
phase_count Third Third order n x = j_count order n x.pairs x.following x.received.second
phase_count Third First order n x = before_count order n x.pairs x.own x.received.first
phase_count Third Second order n x = masks_count n x.pairs x.own x.following

pub phase_leaves : (v j : Party) (order : List ℕ) (n : ℕ) (x : PartMoving) (p : Party)
    → at p (part_phase v j order n x).received ≡ drop (at p (phase_takes v j (length x.pairs * n))) (at p x.received)
phase_leaves First First order n x First = refl
phase_leaves First First order n x Second = refl
phase_leaves First First order n x Third = refl
phase_leaves First Second order n x First = refl
phase_leaves First Second order n x Second = refl
phase_leaves First Second order n x Third = refl
phase_leaves First Third order n x First = refl
phase_leaves First Third order n x Second = refl
phase_leaves First Third order n x Third = refl
phase_leaves Second Second order n x First = refl
phase_leaves Second Second order n x Second = refl
phase_leaves Second Second order n x Third = refl
phase_leaves Second Third order n x First = refl
phase_leaves Second Third order n x Second = refl
phase_leaves Second Third order n x Third = refl
phase_leaves Second First order n x First = refl
phase_leaves Second First order n x Second = refl
phase_leaves Second First order n x Third = refl
phase_leaves Third Third order n x First = refl
phase_leaves Third Third order n x Second = refl
phase_leaves Third Third order n x Third = refl
phase_leaves Third First order n x First = refl
phase_leaves Third First order n x Second = refl
phase_leaves Third First order n x Third = refl
phase_leaves Third Second order n x First = refl
phase_leaves Third Second order n x Second = refl
phase_leaves Third Second order n x Third = refl

-- ---- a Reveal

abbrev pub moving_of : Part → List ℕ → Given → PartMoving
moving_of a moved g = part_moving a moved g

-- there are the words of so many phases
pub record HasOne (v : Party) (n : ℕ) (m : ℕ) (g : Given) : Type 0 where
  pub one : (p : Party) → at p (phase_takes v First (m * n)) ≤ length (at p g.received)

pub record HasTwo (v : Party) (n : ℕ) (m : ℕ) (g : Given) : Type 0 where
  pub two : (p : Party) → at p (phase_takes v First (m * n)) + at p (phase_takes v Second (m * n)) ≤ length (at p g.received)

pub record HasThree (v : Party) (n : ℕ) (m : ℕ) (g : Given) : Type 0 where
  pub three : (p : Party) → at p (phase_takes v First (m * n)) + (at p (phase_takes v Second (m * n)) + at p (phase_takes v Third (m * n))) ≤ length (at p g.received)

moved_count : (a : Part) (moved : List ℕ) (g : Given) → length (part_moving a moved g).pairs ≡ length moved
moved_count a moved g = length-map moved (pair_at a)

module _ (v : Party) (a : Part) (moved : List ℕ) (n : ℕ) (g : Given) (q : Party) (words : List ℕ) where
  abbrev M : ℕ
  M = length moved

  abbrev X : PartMoving
  X = part_moving a moved g

  abbrev More : Given
  More = with_words g q words

  pub first_stays : HasOne v n M g → part_first v n More (part_moving a moved More) ≡ moved_more (part_first v n g X) q words
  first_stays h = phase_stays v First (held_order v First g) n X q words (λ p. subst (λ m. at p (phase_takes v First (m * n)) ≤ length (at p g.received)) (sym (moved_count a moved g)) (h.one p))

  first_count : length (part_first v n g X).pairs ≡ M
  first_count = phase_count v First (held_order v First g) n X ∙ moved_count a moved g

  first_leaves : (p : Party) → at p (part_first v n g X).received ≡ drop (at p (phase_takes v First (M * n))) (at p g.received)
  first_leaves p = phase_leaves v First (held_order v First g) n X p ∙ ap (λ m. drop (at p (phase_takes v First (m * n))) (at p g.received)) (moved_count a moved g)

  pub second_stays : HasTwo v n M g → part_second v n More (part_moving a moved More) ≡ moved_more (part_second v n g X) q words
  second_stays h =
      ap (λ x. part_phase v Second (held_order v Second g) n x) (first_stays (record { one = λ p. let k = h.two p in omega (arith, k) }))
      ∙ phase_stays v Second (held_order v Second g) n (part_first v n g X) q words (λ p.
      let k = h.two p in
      let e = ap length (first_leaves p) ∙ length-drop (at p (phase_takes v First (M * n))) (at p g.received) in
      subst (λ m. at p (phase_takes v Second (m * n)) ≤ length (at p (part_first v n g X).received)) (sym first_count) (omega (arith, k, e)))

  second_count : length (part_second v n g X).pairs ≡ M
  second_count = phase_count v Second (held_order v Second g) n (part_first v n g X) ∙ first_count

  second_leaves : (p : Party) → length (at p (part_second v n g X).received) ≡ length (at p g.received) - (at p (phase_takes v First (M * n)) + at p (phase_takes v Second (M * n)))
  second_leaves p =
      let one = ap length (first_leaves p) ∙ length-drop (at p (phase_takes v First (M * n))) (at p g.received) in
      let two = ap length (phase_leaves v Second (held_order v Second g) n (part_first v n g X) p
      ∙ ap (λ m. drop (at p (phase_takes v Second (m * n))) (at p (part_first v n g X).received)) first_count)
      ∙ length-drop (at p (phase_takes v Second (M * n))) (at p (part_first v n g X).received) in
      omega (arith, one, two)

  pub third_stays : HasThree v n M g → part_third v n More (part_moving a moved More) ≡ moved_more (part_third v n g X) q words
  third_stays h =
      ap (λ x. part_phase v Third (held_order v Third g) n x) (second_stays (record { two = λ p. let k = h.three p in omega (arith, k) }))
      ∙ phase_stays v Third (held_order v Third g) n (part_second v n g X) q words (λ p.
      let k = h.three p in
      let e = second_leaves p in
      subst (λ m. at p (phase_takes v Third (m * n)) ≤ length (at p (part_second v n g X).received)) (sym second_count) (omega (arith, k, e)))

-- ---- a Steer of party b

-- the words of its order
abbrev pub order_takes : Party → Party → ℕ → Three ℕ
order_takes v b n = when (same_party v (before b)) (takes_from b n)

pub behind_stays : (v b : Party) (n : ℕ) (x : PartMoving) (q : Party) (words : List ℕ) → ((p : Party) → at p (order_takes v b n) ≤ length (at p x.received))
    → behind_order v b n (moved_more x q words) ≡ moved_more (behind_order v b n x) q words
behind_stays First First n x q words h = refl
behind_stays First Third n x q words h = refl
behind_stays Second First n x q words h = refl
behind_stays Second Second n x q words h = refl
behind_stays Third Second n x q words h = refl
behind_stays Third Third n x q words h = refl
behind_stays First Second n x First words h = refl
behind_stays First Second n x Second words h = same_moving _ _ refl refl refl refl (drop-append-le n x.received.second words (h Second)) refl
behind_stays First Second n x Third words h = refl
behind_stays Second Third n x First words h = refl
behind_stays Second Third n x Second words h = refl
behind_stays Second Third n x Third words h = same_moving _ _ refl refl refl refl refl (drop-append-le n x.received.third words (h Third))
behind_stays Third First n x First words h = same_moving _ _ refl refl refl (drop-append-le n x.received.first words (h First)) refl refl
behind_stays Third First n x Second words h = refl
behind_stays Third First n x Third words h = refl

pub behind_pairs : (v b : Party) (n : ℕ) (x : PartMoving) → (behind_order v b n x).pairs ≡ x.pairs
behind_pairs v b n x = by (same_party v (before b)) where
  by : (c : Bool) → (cond c (record x { received = put b (drop n (at b x.received)) x.received }) x).pairs ≡ x.pairs
  by true = refl
  by false = refl

pub behind_leaves : (v b : Party) (n : ℕ) (x : PartMoving) (p : Party) → at p (behind_order v b n x).received ≡ drop (at p (order_takes v b n)) (at p x.received)
behind_leaves v b n x p = by (same_party v (before b)) b p where
  by : (c : Bool) (b p : Party) → at p (cond c (record x { received = put b (drop n (at b x.received)) x.received }) x).received ≡ drop (at p (when c (takes_from b n))) (at p x.received)
  by false b First = refl
  by false b Second = refl
  by false b Third = refl
  by true First First = refl
  by true First Second = refl
  by true First Third = refl
  by true Second First = refl
  by true Second Second = refl
  by true Second Third = refl
  by true Third First = refl
  by true Third Second = refl
  by true Third Third = refl

-- the order itself, for the two parties that use it
order_stays : (v b : Party) (secret : List ℕ) (n : ℕ) (g : Given) (q : Party) (words : List ℕ) (y : PartMoving)
    → ((p : Party) → at p (order_takes v b n) ≤ length (at p g.received))
    → phase_sends v b (take n (steered v b secret (with_words g q words))) n y ≡ phase_sends v b (take n (steered v b secret g)) n y
order_stays First First secret n g q words y h = refl
order_stays Second Second secret n g q words y h = refl
order_stays Third Third secret n g q words y h = refl
order_stays First Third secret n g q words y h = refl
order_stays Second First secret n g q words y h = refl
order_stays Third Second secret n g q words y h = refl
order_stays First Second secret n g First words y h = refl
order_stays First Second secret n g Second words y h = ap (λ o. phase_sends First Second o n y) (take-append-le n g.received.second words (h Second))
order_stays First Second secret n g Third words y h = refl
order_stays Second Third secret n g First words y h = refl
order_stays Second Third secret n g Second words y h = refl
order_stays Second Third secret n g Third words y h = ap (λ o. phase_sends Second Third o n y) (take-append-le n g.received.third words (h Third))
order_stays Third First secret n g First words y h = ap (λ o. phase_sends Third First o n y) (take-append-le n g.received.first words (h First))
order_stays Third First secret n g Second words y h = refl
order_stays Third First secret n g Third words y h = refl

-- what the party that steers sends of it
secret_stays : (v b : Party) (secret : List ℕ) (g : Given) (q : Party) (words : List ℕ)
    → when_sent (same_party v b) (put (before v) (steered v b secret (with_words g q words)) nothing) ≡ when_sent (same_party v b) (put (before v) (steered v b secret g) nothing)
secret_stays First First secret g q words = refl
secret_stays Second Second secret g q words = refl
secret_stays Third Third secret g q words = refl
secret_stays First Second secret g q words = refl
secret_stays First Third secret g q words = refl
secret_stays Second First secret g q words = refl
secret_stays Second Third secret g q words = refl
secret_stays Third First secret g q words = refl
secret_stays Third Second secret g q words = refl

-- the first phase's words don't come from anyone
drawn_sends_stay : (v b : Party) (order : List ℕ) (n : ℕ) (x : PartMoving) (q : Party) (words : List ℕ)
    → phase_sends v (next b) order n (behind_order v b n (moved_more x q words)) ≡ phase_sends v (next b) order n (behind_order v b n x)
drawn_sends_stay First First order n x q words = refl
drawn_sends_stay First Second order n x q words = refl
drawn_sends_stay First Third order n x q words = refl
drawn_sends_stay Second First order n x q words = refl
drawn_sends_stay Second Second order n x q words = refl
drawn_sends_stay Second Third order n x q words = refl
drawn_sends_stay Third First order n x q words = refl
drawn_sends_stay Third Second order n x q words = refl
drawn_sends_stay Third Third order n x q words = refl

-- there are the words of the order and of the first phase
pub record HasDrawn (v b : Party) (n m : ℕ) (g : Given) : Type 0 where
  pub drawn : (p : Party) → at p (order_takes v b n) + at p (phase_takes v (next b) (m * n)) ≤ length (at p g.received)

module _ (v b : Party) (a : Part) (moved : List ℕ) (n : ℕ) (g : Given) (q : Party) (words : List ℕ) where
  abbrev Y : PartMoving
  Y = part_moving a moved g

  pub drawn_stays : HasDrawn v b n (length moved) g → part_drawn v b n (with_words g q words) (part_moving a moved (with_words g q words)) ≡ moved_more (part_drawn v b n g Y) q words
  drawn_stays h =
      ap (λ x. part_phase v (next b) (held_order v (next b) g) n x) (behind_stays v b n Y q words (λ p. let k = h.drawn p in omega (arith, k)))
      ∙ phase_stays v (next b) (held_order v (next b) g) n (behind_order v b n Y) q words (λ p.
      let k = h.drawn p in
      let e = ap length (behind_leaves v b n Y p) ∙ length-drop (at p (order_takes v b n)) (at p g.received) in
      subst (λ m. at p (phase_takes v (next b) (m * n)) ≤ length (at p (behind_order v b n Y).received)) (sym (ap length (behind_pairs v b n Y) ∙ moved_count a moved g)) (omega (arith, k, e)))

-- ---- all steps

one_stage : (p : Party) (t : Three ℕ) → count_from p (t ∷ []) ≡ at p t + 0
one_stage p t = count_more p t []

three_of : (p : Party) (a b c z : Three ℕ) (i n : ℕ) → count_from p (take (suc (suc (suc i))) (a ∷ b ∷ c ∷ z ∷ [])) ≤ n → at p a + (at p b + at p c) ≤ n
three_of p a b c z i n h =
    let x = count_more p a (b ∷ c ∷ take i (z ∷ [])) in
    let y = count_more p b (c ∷ take i (z ∷ [])) in
    let w = count_more p c (take i (z ∷ [])) in
    omega (arith, h, x, y, w)

-- what the party behind the one that a Reveal shows to sends of pairs
abbrev shown_to : Party → Party → List ℕ → PartMoving → Three (List ℕ)
shown_to v q shown y = when_sent (same_party v (next q)) (put q (flat_map (λ k. (slice_index_or y.pairs k no_pair).following) shown) nothing)

pub sends_stay : {T : Type 0} (v : Party) (l : Layout) (a : Part) (s : Step T) (g : Given) (q : Party) (words : List ℕ) (i : ℕ)
    → ((p : Party) → count_from p (take i (stage_takes v l s)) ≤ length (at p g.received))
    → take (suc i) (stage_sends v l a s (with_words g q words)) ≡ take (suc i) (stage_sends v l a s g)
sends_stay v l a (Const ws) g q words i h = refl
sends_stay v l a (Lin op) g q words i h = refl
sends_stay v l a (And x y) g q words i h = refl
sends_stay v l a (Share p s) g q words i h = refl
sends_stay v l a (Tell x y s) g q words i h = refl
sends_stay v l a (Work p task takes gives) g q words i h = refl
sends_stay v l a (Flag p s) g q words i h = refl
sends_stay v l a (Reveal to moved shown) g q words zero h = refl
sends_stay v l a (Reveal to moved shown) g q words (suc zero) h =
    let n = rows_moved l moved in
    let w = length moved * n in
    let one : HasOne v n (length moved) g = record { one = λ p. let k = h p in let e = one_stage p (phase_takes v First w) in omega (arith, k, e) } in
    ap (λ y. phase_sends v First (held_order v First g) n (part_moving a moved g) ∷ phase_sends v Second (held_order v Second g) n y ∷ []) (first_stays v a moved n g q words one)
sends_stay v l a (Reveal to moved shown) g q words (suc (suc zero)) h =
    let n = rows_moved l moved in
    let w = length moved * n in
    let two : HasTwo v n (length moved) g = record {
      two = λ p.
          let k = h p in
          let e = count_more p (phase_takes v First w) (phase_takes v Second w ∷ []) in
          let f = one_stage p (phase_takes v Second w) in
          omega (arith, k, e, f);
    } in
    let one : HasOne v n (length moved) g = record { one = λ p. let k = two.two p in omega (arith, k) } in
    ap (λ y. phase_sends v First (held_order v First g) n (part_moving a moved g) ∷ phase_sends v Second (held_order v Second g) n y
    ∷ phase_sends v Third (held_order v Third g) n (part_second v n g (part_moving a moved (with_words g q words))) ∷ []) (first_stays v a moved n g q words one)
    ∙ ap (λ y. phase_sends v First (held_order v First g) n (part_moving a moved g) ∷ phase_sends v Second (held_order v Second g) n (part_first v n g (part_moving a moved g))
    ∷ phase_sends v Third (held_order v Third g) n y ∷ []) (second_stays v a moved n g q words two)
sends_stay v l a (Reveal to moved shown) g q words (suc (suc (suc i))) h =
    let n = rows_moved l moved in
    let w = length moved * n in
    let three : HasThree v n (length moved) g = record {
      three = λ p.
          let k = three_of p (phase_takes v First w) (phase_takes v Second w) (phase_takes v Third w) (when (same_party v (party_of to)) (takes_from (next (party_of to)) (length shown * n))) i (length (at p g.received)) (h p) in omega (arith, k);
    } in
    let two : HasTwo v n (length moved) g = record { two = λ p. let k = three.three p in omega (arith, k) } in
    let one : HasOne v n (length moved) g = record { one = λ p. let k = two.two p in omega (arith, k) } in
    let m = part_moving a moved (with_words g q words) in
    let s0 = phase_sends v First (held_order v First g) n (part_moving a moved g) in
    let s1 = phase_sends v Second (held_order v Second g) n (part_first v n g (part_moving a moved g)) in
    let s2 = phase_sends v Third (held_order v Third g) n (part_second v n g (part_moving a moved g)) in
    ap (λ y. s0 ∷ phase_sends v Second (held_order v Second g) n y ∷ phase_sends v Third (held_order v Third g) n (part_second v n g m) ∷ shown_to v (party_of to) shown (part_third v n g m) ∷ take i []) (first_stays v a moved n g q words one)
    ∙ ap (λ y. s0 ∷ s1 ∷ phase_sends v Third (held_order v Third g) n y ∷ shown_to v (party_of to) shown (part_third v n g m) ∷ take i []) (second_stays v a moved n g q words two)
    ∙ ap (λ y. s0 ∷ s1 ∷ s2 ∷ shown_to v (party_of to) shown y ∷ take i []) (third_stays v a moved n g q words three)
sends_stay v l a (Steer by s moved) g q words zero h = ap (λ x. x ∷ []) (secret_stays v (party_of by) (item a.slots s) g q words)
sends_stay v l a (Steer by s moved) g q words (suc zero) h =
    let b = party_of by in
    let n = rows_moved l moved in
    ap (λ x. x ∷ phase_sends v (next b) (held_order v (next b) g) n (behind_order v b n (part_moving a moved (with_words g q words))) ∷ []) (secret_stays v b (item a.slots s) g q words)
    ∙ ap (λ x. when_sent (same_party v b) (put (before v) (steered v b (item a.slots s) g) nothing) ∷ x ∷ []) (drawn_sends_stay v b (held_order v (next b) g) n (part_moving a moved g) q words)
sends_stay v l a (Steer by s moved) g q words (suc (suc i)) h =
    let b = party_of by in
    let n = rows_moved l moved in
    let secret = item a.slots s in
    let w = length moved * n in
    let drawn : HasDrawn v b n (length moved) g = record {
      drawn = λ p.
          let k = h p in
          let e = count_more p (order_takes v b n) (phase_takes v (next b) w ∷ take i (phase_takes v b w ∷ [])) in
          let f = count_more p (phase_takes v (next b) w) (take i (phase_takes v b w ∷ [])) in
          omega (arith, k, e, f);
    } in
    let more = with_words g q words in
    let s0 = when_sent (same_party v b) (put (before v) (steered v b secret g) nothing) in
    let s1 = phase_sends v (next b) (held_order v (next b) g) n (behind_order v b n (part_moving a moved g)) in
    ap (λ x. x ∷ phase_sends v (next b) (held_order v (next b) g) n (behind_order v b n (part_moving a moved more))
    ∷ phase_sends v b (take n (steered v b secret more)) n (part_drawn v b n g (part_moving a moved more)) ∷ take i []) (secret_stays v b secret g q words)
    ∙ ap (λ x. s0 ∷ x ∷ phase_sends v b (take n (steered v b secret more)) n (part_drawn v b n g (part_moving a moved more)) ∷ take i []) (drawn_sends_stay v b (held_order v (next b) g) n (part_moving a moved g) q words)
    ∙ ap (λ y. s0 ∷ s1 ∷ phase_sends v b (take n (steered v b secret more)) n y ∷ take i []) (drawn_stays v b a moved n g q words drawn)
    ∙ ap (λ x. s0 ∷ s1 ∷ x ∷ take i []) (order_stays v b secret n g q words (part_drawn v b n g (part_moving a moved g)) (λ p. let k = drawn.drawn p in omega (arith, k)))
