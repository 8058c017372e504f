-- One phase at one party: on the words that the other party of the phase sends it, it makes the machine's shares and sends
-- the machine's words.
use Rattle.std.proofs.Common.{◌≡◌, ℕ, suc, ◌*◌, List, [], ◌∷◌, ◌++◌, length, map, take, drop, refl, sym, ap, ◌∙◌, arith}
use Rattle.std.proofs.Math.Nat.{suc-mul}
use Rattle.std.proofs.lemmas.List.{append-nil, length-append, length-map, length-take}
use Rattle.lanes.specs.declared.party.Party.{Party}
use Rattle.lanes.specs.declared.party.Party.TheVariants.{First, Second, Third}
use Rattle.lanes.specs.declared.three.Three.{Three}
use Rattle.lanes.specs.Party.{next, before}
use Rattle.lanes.specs.Three.{at, put}
use Rattle.lanes.specs.Lanes.{xors, picked}
use Rattle.lanes.specs.Items.{LaneLengths}
use Rattle.step_lists.specs.Draws.{nothing, joined}
use Rattle.step_lists.specs.Phases.{Shares, there, back, reshared, reshared_all, there_all, back_all, Moving, phase, phase_words}
use Rattle.step_lists.specs.Part.{Pair, PartMoving, sent_before_j, pairs_of_j, pairs_before_j, pairs_of_masks, all_by_j, all_before_j, part_phase, phase_sends}
use Rattle.party_laws.specs.InMachine.{pair_of, received_by}
use Rattle.party_laws.proofs.Lists.{take_first, drop_first, drop_front, nil_between}

-- ---- what is sent of some registers

there_one : LaneLengths → (n : ℕ) (j : Party) (o : List ℕ) (s : Shares) (a : List ℕ) → length o ≡ n → length (there j o s (take n a)) ≡ n
there_one lengths n j o s a h =
    let x = xors (at (before j) s) (at j s) in
    let px : length (picked o x) ≡ length o = lengths.pick o x in
    let lx = lengths.xor (picked o x) (take n a) in
    let lt = length-take n a in
    omega arith

back_one : LaneLengths → (n : ℕ) (j : Party) (o : List ℕ) (s : Shares) (b : List ℕ) → length o ≡ n → length (back j o s (take n b)) ≡ n
back_one lengths n j o s b h =
    let px : length (picked o (at (next j) s)) ≡ length o = lengths.pick o (at (next j) s) in
    let lx = lengths.xor (picked o (at (next j) s)) (take n b) in
    let lt = length-take n b in
    omega arith

pub there_long : LaneLengths → (n : ℕ) (j : Party) (o : List ℕ) (ss : List Shares) (a : List ℕ) → length o ≡ n → length (there_all j o n ss a) ≡ length ss * n
there_long lengths n j o [] a h = omega arith
there_long lengths n j o (s ∷ ss) a h =
    let one = there_one lengths n j o s a h in
    let more = there_long lengths n j o ss (drop n a) h in
    let times = suc-mul (length ss) n in
    omega (arith, length-append (there j o s (take n a)) (there_all j o n ss (drop n a)))

pub back_long : LaneLengths → (n : ℕ) (j : Party) (o : List ℕ) (ss : List Shares) (b : List ℕ) → length o ≡ n → length (back_all j o n ss b) ≡ length ss * n
back_long lengths n j o [] b h = omega arith
back_long lengths n j o (s ∷ ss) b h =
    let one = back_one lengths n j o s b h in
    let more = back_long lengths n j o ss (drop n b) h in
    let times = suc-mul (length ss) n in
    omega (arith, length-append (back j o s (take n b)) (back_all j o n ss (drop n b)))

pub made_count : (n : ℕ) (j : Party) (o : List ℕ) (ss : List Shares) (a b : List ℕ) → length (reshared_all j o n ss a b) ≡ length ss
made_count n j o [] a b = refl
made_count n j o (s ∷ ss) a b = ap suc (made_count n j o ss (drop n a) (drop n b))

-- ---- as party j

pair_of_j : (j : Party) (o : List ℕ) (s : Shares) (a b : List ℕ) → record { own = xors (there j o s a) (back j o s b); following = b } ≡ pair_of j (reshared j o s a b)
pair_of_j First o s a b = refl
pair_of_j Second o s a b = refl
pair_of_j Third o s a b = refl

pub made_as_j : LaneLengths → (n : ℕ) (j : Party) (o : List ℕ) (ss : List Shares) (a b rest : List ℕ) → length o ≡ n
    → pairs_of_j o n (map (pair_of j) ss) b (there_all j o n ss a ++ rest) ≡ map (pair_of j) (reshared_all j o n ss a b)
made_as_j lengths n j o [] a b rest h = refl
made_as_j lengths n j o (s ∷ ss) a b rest h =
    let t = there j o s (take n a) in
    let ts = there_all j o n ss (drop n a) in
    let one = there_one lengths n j o s a h in
    let sent = back j o s (take n b) in
    let more = λ (got : List ℕ). pairs_of_j o n (map (pair_of j) ss) (drop n b) got in
    ap (λ (got : List ℕ). record { own = xors got sent; following = take n b } ∷ more (drop n ((t ++ ts) ++ rest))) (take_first n t ts rest one)
    ∙ (ap (λ (got : List ℕ). record { own = xors t sent; following = take n b } ∷ more got) (drop_first n t ts rest one)
    ∙ (ap (λ (p : Pair). p ∷ more (ts ++ rest)) (pair_of_j j o s (take n a) (take n b))
    ∙ ap (λ ps. pair_of j (reshared j o s (take n a) (take n b)) ∷ ps) (made_as_j lengths n j o ss (drop n a) (drop n b) rest h)))

pub sent_as_j : (n : ℕ) (j : Party) (o : List ℕ) (ss : List Shares) (b : List ℕ) → all_by_j o n (map (pair_of j) ss) b ≡ back_all j o n ss b
sent_as_j n j o [] b = refl
sent_as_j n j o (s ∷ ss) b = ap (λ ws. back j o s (take n b) ++ ws) (sent_as_j n j o ss (drop n b))

-- ---- as party j - 1

pair_before_j : (j : Party) (o : List ℕ) (s : Shares) (a b : List ℕ) → record { own = a; following = xors (there j o s a) (back j o s b) } ≡ pair_of (before j) (reshared j o s a b)
pair_before_j First o s a b = refl
pair_before_j Second o s a b = refl
pair_before_j Third o s a b = refl

sent_before : (j : Party) (o : List ℕ) (s : Shares) (a : List ℕ) → sent_before_j o (pair_of (before j) s) a ≡ there j o s a
sent_before First o s a = refl
sent_before Second o s a = refl
sent_before Third o s a = refl

pub made_before_j : LaneLengths → (n : ℕ) (j : Party) (o : List ℕ) (ss : List Shares) (a b rest : List ℕ) → length o ≡ n
    → pairs_before_j o n (map (pair_of (before j)) ss) a (back_all j o n ss b ++ rest) ≡ map (pair_of (before j)) (reshared_all j o n ss a b)
made_before_j lengths n j o [] a b rest h = refl
made_before_j lengths n j o (s ∷ ss) a b rest h =
    let t = back j o s (take n b) in
    let ts = back_all j o n ss (drop n b) in
    let one = back_one lengths n j o s b h in
    let more = λ (got : List ℕ). pairs_before_j o n (map (pair_of (before j)) ss) (drop n a) got in
    ap (λ (sent : List ℕ). record { own = take n a; following = xors sent (take n ((t ++ ts) ++ rest)) } ∷ more (drop n ((t ++ ts) ++ rest))) (sent_before j o s (take n a))
    ∙ (ap (λ (got : List ℕ). record { own = take n a; following = xors (there j o s (take n a)) got } ∷ more (drop n ((t ++ ts) ++ rest))) (take_first n t ts rest one)
    ∙ (ap (λ (got : List ℕ). record { own = take n a; following = xors (there j o s (take n a)) t } ∷ more got) (drop_first n t ts rest one)
    ∙ (ap (λ (p : Pair). p ∷ more (ts ++ rest)) (pair_before_j j o s (take n a) (take n b))
    ∙ ap (λ ps. pair_of (before j) (reshared j o s (take n a) (take n b)) ∷ ps) (made_before_j lengths n j o ss (drop n a) (drop n b) rest h))))

pub sent_as_before : (n : ℕ) (j : Party) (o : List ℕ) (ss : List Shares) (a : List ℕ) → all_before_j o n (map (pair_of (before j)) ss) a ≡ there_all j o n ss a
sent_as_before n j o [] a = refl
sent_as_before n j o (s ∷ ss) a =
    ap (λ (w : List ℕ). w ++ all_before_j o n (map (pair_of (before j)) ss) (drop n a)) (sent_before j o s (take n a))
    ∙ ap (λ ws. there j o s (take n a) ++ ws) (sent_as_before n j o ss (drop n a))

-- ---- as the third party

pair_of_third : (j : Party) (o : List ℕ) (s : Shares) (a b : List ℕ) → record { own = b; following = a } ≡ pair_of (next j) (reshared j o s a b)
pair_of_third First o s a b = refl
pair_of_third Second o s a b = refl
pair_of_third Third o s a b = refl

pub made_as_third : (n : ℕ) (j : Party) (o : List ℕ) (ss : List Shares) (a b : List ℕ)
    → pairs_of_masks n (map (pair_of (next j)) ss) b a ≡ map (pair_of (next j)) (reshared_all j o n ss a b)
made_as_third n j o [] a b = refl
made_as_third n j o (s ∷ ss) a b =
    ap (λ (p : Pair). p ∷ pairs_of_masks n (map (pair_of (next j)) ss) (drop n b) (drop n a)) (pair_of_third j o s (take n a) (take n b))
    ∙ ap (λ ps. pair_of (next j) (reshared j o s (take n a) (take n b)) ∷ ps) (made_as_third n j o ss (drop n a) (drop n b))

-- ---- a phase

-- the moved registers of the machine, cut to a party, with these words to come
abbrev pub moving_in : Party → Moving → Three (List ℕ) → PartMoving
moving_in v y rest = record { pairs = map (pair_of v) y.shares; own = at v y.masks; following = at (next v) y.masks; received = rest }

abbrev part_by : List Pair → List ℕ → List ℕ → Three (List ℕ) → PartMoving
part_by ps a c r = record { pairs = ps; own = a; following = c; received = r }

built : (ps qs : List Pair) (a b c d : List ℕ) (r t : Three (List ℕ)) → ps ≡ qs → a ≡ b → c ≡ d → r ≡ t → part_by ps a c r ≡ part_by qs b d t
built ps qs a b c d r t e f g h =
    ap (λ x. part_by x a c r) e ∙ (ap (λ x. part_by qs x c r) f ∙ (ap (λ x. part_by qs b x r) g ∙ ap (part_by qs b d) h))

-- what is left of masks, and of words that came, behind so many registers
rest_of_masks : (n : ℕ) (v : Party) (ss : List Shares) (a : List ℕ) → drop (length (map (pair_of v) ss) * n) a ≡ drop (length ss * n) a
rest_of_masks n v ss a = ap (λ k. drop (k * n) a) (length-map ss (pair_of v))

rest_of_words : (n : ℕ) (v : Party) (ss : List Shares) (w rest : List ℕ) → length w ≡ length ss * n → drop (length (map (pair_of v) ss) * n) (w ++ rest) ≡ rest
rest_of_words n v ss w rest h = rest_of_masks n v ss (w ++ rest) ∙ drop_front (length ss * n) w rest h

module _ (lengths : LaneLengths) (o : List ℕ) (n : ℕ) (y : Moving) (rest : Three (List ℕ)) (h : length o ≡ n) where
  abbrev there_by : Party → List ℕ
  there_by j = there_all j o n y.shares (at (before j) y.masks)

  abbrev back_by : Party → List ℕ
  back_by j = back_all j o n y.shares (at (next j) y.masks)

  there_is : (j : Party) → length (there_by j) ≡ length y.shares * n
  there_is j = there_long lengths n j o y.shares (at (before j) y.masks) h

  back_is : (j : Party) → length (back_by j) ≡ length y.shares * n
  back_is j = back_long lengths n j o y.shares (at (next j) y.masks) h

  -- the words of the phase, and then the rest
  abbrev pub to_come : Party → Party → Three (List ℕ)
  to_come v j = joined (received_by v (phase_words j o n y)) rest

  as_j : (j v : Party) (w : List ℕ) → pairs_of_j o n (map (pair_of j) y.shares) (at (next j) y.masks) ((there_by j ++ []) ++ w) ≡ map (pair_of j) (phase j o n y).shares
  as_j j v w =
      ap (pairs_of_j o n (map (pair_of j) y.shares) (at (next j) y.masks)) (nil_between (there_by j) w)
      ∙ made_as_j lengths n j o y.shares (at (before j) y.masks) (at (next j) y.masks) w h

  left_j : (j : Party) (w : List ℕ) → drop (length (map (pair_of j) y.shares) * n) ((there_by j ++ []) ++ w) ≡ w
  left_j j w = ap (drop (length (map (pair_of j) y.shares) * n)) (nil_between (there_by j) w) ∙ rest_of_words n j y.shares (there_by j) w (there_is j)

  as_before : (j : Party) (w : List ℕ) → pairs_before_j o n (map (pair_of (before j)) y.shares) (at (before j) y.masks) (back_by j ++ w) ≡ map (pair_of (before j)) (phase j o n y).shares
  as_before j w = made_before_j lengths n j o y.shares (at (before j) y.masks) (at (next j) y.masks) w h

  left_before : (j : Party) (w : List ℕ) → drop (length (map (pair_of (before j)) y.shares) * n) (back_by j ++ w) ≡ w
  left_before j w = rest_of_words n (before j) y.shares (back_by j) w (back_is j)

  left : (v q : Party) → drop (length (map (pair_of v) y.shares) * n) (at q y.masks) ≡ drop (length y.shares * n) (at q y.masks)
  left v q = rest_of_masks n v y.shares (at q y.masks)

  -- the phase at party v is the machine's, cut to it
  pub phase_in : (v j : Party) → part_phase v j o n (moving_in v y (to_come v j)) ≡ moving_in v (phase j o n y) rest
  phase_in First First =
      built _ _ _ _ _ _ _ _ (as_j First First rest.third) refl (left First Second) (ap (λ w. put Third w rest) (left_j First rest.third))
  phase_in Second Second =
      built _ _ _ _ _ _ _ _ (as_j Second Second rest.first) refl (left Second Third) (ap (λ w. put First w rest) (left_j Second rest.first))
  phase_in Third Third =
      built _ _ _ _ _ _ _ _ (as_j Third Third rest.second) refl (left Third First) (ap (λ w. put Second w rest) (left_j Third rest.second))
  phase_in Third First =
      built _ _ _ _ _ _ _ _ (as_before First rest.first) (left Third Third) refl (ap (λ w. put First w rest) (left_before First rest.first))
  phase_in First Second =
      built _ _ _ _ _ _ _ _ (as_before Second rest.second) (left First First) refl (ap (λ w. put Second w rest) (left_before Second rest.second))
  phase_in Second Third =
      built _ _ _ _ _ _ _ _ (as_before Third rest.third) (left Second Second) refl (ap (λ w. put Third w rest) (left_before Third rest.third))
  phase_in Second First =
      built _ _ _ _ _ _ _ _ (made_as_third n First o y.shares y.masks.third y.masks.second) (left Second Second) (left Second Third) refl
  phase_in Third Second =
      built _ _ _ _ _ _ _ _ (made_as_third n Second o y.shares y.masks.first y.masks.third) (left Third Third) (left Third First) refl
  phase_in First Third =
      built _ _ _ _ _ _ _ _ (made_as_third n Third o y.shares y.masks.second y.masks.first) (left First First) (left First Second) refl

-- what party v sends in a phase
pub phase_sent : (o : List ℕ) (n : ℕ) (y : Moving) (got : Three (List ℕ)) (v j : Party) → phase_sends v j o n (moving_in v y got) ≡ at v (phase_words j o n y)
phase_sent o n y got First First = ap (λ w. put Third w nothing) (sent_as_j n First o y.shares y.masks.second)
phase_sent o n y got Second Second = ap (λ w. put First w nothing) (sent_as_j n Second o y.shares y.masks.third)
phase_sent o n y got Third Third = ap (λ w. put Second w nothing) (sent_as_j n Third o y.shares y.masks.first)
phase_sent o n y got Third First =
    ap (λ w. put First w nothing) (sent_as_before n First o y.shares y.masks.third ∙ sym (append-nil (there_all First o n y.shares y.masks.third)))
phase_sent o n y got First Second =
    ap (λ w. put Second w nothing) (sent_as_before n Second o y.shares y.masks.first ∙ sym (append-nil (there_all Second o n y.shares y.masks.first)))
phase_sent o n y got Second Third =
    ap (λ w. put Third w nothing) (sent_as_before n Third o y.shares y.masks.second ∙ sym (append-nil (there_all Third o n y.shares y.masks.second)))
phase_sent o n y got Second First = refl
phase_sent o n y got Third Second = refl
phase_sent o n y got First Third = refl
