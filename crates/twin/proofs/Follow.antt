-- The phases of the code beside those of the definition: what is moved in both worlds, and the masks that are left.
use Rattle.std.proofs.Common.{◌≡◌, ℕ, ◌*◌, Bool, true, false, List, [], ◌∷◌, ◌++◌, length, drop, map, refl, sym, subst, ap, ◌∙◌, arith}
use Rattle.std.specs.Prelude.{if◌then◌else◌}
use Rattle.std.proofs.lemmas.List.{append-nil, length-drop, take-append-le, drop-append-le}
use Rattle.std.proofs.Math.Nat.{suc-mul}
use Rattle.lanes.specs.declared.party.Party.{Party}
use Rattle.lanes.specs.declared.party.Party.TheVariants.{First, Second, Third}
use Rattle.lanes.specs.declared.three.Three.{Three}
use Rattle.lanes.specs.Lanes.{xors}
use Rattle.lanes.specs.Party.{next, before}
use Rattle.lanes.specs.Three.{at, put, each}
use Rattle.tapes.specs.Order.{composed, inverse_of}
use Rattle.step_lists.specs.Draws.{ThreeTapes, words_in, order_in}
use Rattle.step_lists.specs.Phases.{Shares, Moving, phase, reshared_all}
use Rattle.step_lists.specs.Seen.{same_party}
use Rattle.step_lists.specs.Machine.{Machine, shares}
use Rattle.step_lists.specs.Twin.{Both, bare_phase, begin_both, changed, phase_both, third_both, steer_both, with_order}
use Rattle.joint_machine.specs.Steps.{PhaseDraw, HoldPhases, HoldSteer}
use Rattle.twin.specs.Revealed.{AreRevealDraws}
use Rattle.twin.specs.Steered.{AreSteerDraws}
use Rattle.twin.specs.Turning.{AreTurned, phase_change, taken_up}
use Rattle.twin.proofs.Facts.{Facts}
use Rattle.twin.proofs.Lists.{true_apart}
use Rattle.twin.proofs.Phases.{xor_nothing, drop_front}
use Rattle.twin.proofs.PhasesParties.{bare_of_before}
use Rattle.twin.proofs.PhasesBoth.{sees}
use Rattle.twin.proofs.PhasesCount.{changes_count}
use Rattle.twin.proofs.Reveals.{party_same}

-- registers in both worlds, the changes so far, and the masks that are left
abbrev pub both_at : List Shares → List Shares → List ℕ → Three (List ℕ) → Both
both_at xs ys cs masks = record { one = record { shares = xs; masks = masks }; other = record { shares = ys; masks = masks }; changes = cs }

-- ---- masks

-- a phase takes the front of its masks
reshared_front : (j : Party) (o : List ℕ) (n : ℕ) (ss : List Shares) (a r b u : List ℕ) → length a ≡ length ss * n → length b ≡ length ss * n
    → reshared_all j o n ss (a ++ r) (b ++ u) ≡ reshared_all j o n ss a b
reshared_front j o n [] a r b u ha hb = refl
reshared_front j o n (s ∷ ss) a r b u ha hb =
    let times = suc-mul (length ss) n in
    let one = take-append-le n a r (omega arith) in
    let two = take-append-le n b u (omega arith) in
    let three : drop n (a ++ r) ≡ drop n a ++ r = drop-append-le n a r (omega arith) in
    let four : drop n (b ++ u) ≡ drop n b ++ u = drop-append-le n b u (omega arith) in
    let more = reshared_front j o n ss (drop n a) r (drop n b) u (omega (arith, length-drop n a)) (omega (arith, length-drop n b)) in
    cc

at_masked : (v i : Party) (c : List ℕ) (masks : Three (List ℕ)) → at i (put (before v) (xors (at (before v) masks) c) masks) ≡ taken_up (same_party i (before v)) (at i masks) c
at_masked First First c masks = refl
at_masked First Second c masks = refl
at_masked First Third c masks = refl
at_masked Second First c masks = refl
at_masked Second Second c masks = refl
at_masked Second Third c masks = refl
at_masked Third First c masks = refl
at_masked Third Second c masks = refl
at_masked Third Third c masks = refl

before_same : (j v : Party) → same_party (before j) (before v) ≡ same_party j v
before_same First First = refl
before_same First Second = refl
before_same First Third = refl
before_same Second First = refl
before_same Second Second = refl
before_same Second Third = refl
before_same Third First = refl
before_same Third Second = refl
before_same Third Third = refl

next_same : (j v : Party) → same_party (next j) (before v) ≡ same_party j (next v)
next_same First First = refl
next_same First Second = refl
next_same First Third = refl
next_same Second First = refl
next_same Second Second = refl
next_same Second Third = refl
next_same Third First = refl
next_same Third Second = refl
next_same Third Third = refl

sees_own : (v j : Party) → same_party j v ≡ true → sees v j ≡ true
sees_own First First e = refl
sees_own First Second e = absurd (true_apart e)
sees_own First Third e = absurd (true_apart e)
sees_own Second First e = absurd (true_apart e)
sees_own Second Second e = refl
sees_own Second Third e = absurd (true_apart e)
sees_own Third First e = absurd (true_apart e)
sees_own Third Second e = absurd (true_apart e)
sees_own Third Third e = refl

sees_next : (v j : Party) → same_party j (next v) ≡ true → sees v j ≡ true
sees_next First First e = absurd (true_apart e)
sees_next First Second e = refl
sees_next First Third e = absurd (true_apart e)
sees_next Second First e = absurd (true_apart e)
sees_next Second Second e = absurd (true_apart e)
sees_next Second Third e = refl
sees_next Third First e = refl
sees_next Third Second e = absurd (true_apart e)
sees_next Third Third e = absurd (true_apart e)

taken_front : Facts → (u : Bool) (a r c : List ℕ) → (u ≡ true → length c ≡ length a) → taken_up u (a ++ r) c ≡ taken_up u a c ++ r
taken_front facts true a r c h =
    ap (xors (a ++ r)) (sym (append-nil c))
    ∙ (facts.parts.appended a r c [] (sym (h refl)) ∙ ap (λ x. xors a c ++ x) (xor_nothing r))
taken_front facts false a r c h = refl

taken_none : (u : Bool) (a c : List ℕ) → (u ≡ true → c ≡ []) → taken_up u a c ≡ a
taken_none true a c h = ap (xors a) (h refl) ∙ xor_nothing a
taken_none false a c h = refl

taken_long : Facts → (u : Bool) (a c : List ℕ) → (u ≡ true → length c ≡ length a) → length (taken_up u a c) ≡ length a
taken_long facts true a c h = let e = h refl in omega (arith, facts.lengths.xor a c)
taken_long facts false a c h = refl

put_three : (j : Party) (x y : List ℕ) (m m' : Three (List ℕ)) → at j m ≡ at j m' → put (before j) x (put (next j) y m) ≡ put (before j) x (put (next j) y m')
put_three First x y m m' e = ap (λ z. record { first = z; second = y; third = x }) e
put_three Second x y m m' e = ap (λ z. record { first = x; second = z; third = y }) e
put_three Third x y m m' e = ap (λ z. record { first = y; second = x; third = z }) e

-- the masks behind a phase
abbrev pub masks_behind : Party → List ℕ → List ℕ → Three (List ℕ) → Three (List ℕ)
masks_behind j r u masks = put (before j) r (put (next j) u masks)

-- one phase of a world, by masks that begin with a and b
one_phase : (j : Party) (p : List ℕ) (n : ℕ) (xs : List Shares) (masks : Three (List ℕ)) (a r b u : List ℕ) → at (before j) masks ≡ a ++ r → at (next j) masks ≡ b ++ u
    → length a ≡ length xs * n → length b ≡ length xs * n
    → phase j p n (record { shares = xs; masks = masks }) ≡ record { shares = reshared_all j p n xs a b; masks = masks_behind j r u masks }
one_phase j p n xs masks a r b u e f ha hb =
    let shares1 : reshared_all j p n xs (at (before j) masks) (at (next j) masks) ≡ reshared_all j p n xs a b =
    ap (λ x. reshared_all j p n xs x (at (next j) masks)) e ∙ (ap (reshared_all j p n xs (a ++ r)) f ∙ reshared_front j p n xs a r b u ha hb) in
    let first : drop (length xs * n) (at (before j) masks) ≡ r = ap (drop (length xs * n)) e ∙ drop_front (length xs * n) a r ha in
    let second : drop (length xs * n) (at (next j) masks) ≡ u = ap (drop (length xs * n)) f ∙ drop_front (length xs * n) b u hb in
    let k = length xs * n in
    let M : List Shares → List ℕ → List ℕ → Moving = λ ss x y. record { shares = ss; masks = put (before j) x (put (next j) y masks) } in
    ap (λ ss. M ss (drop k (at (before j) masks)) (drop k (at (next j) masks))) shares1
    ∙ (ap (λ x. M (reshared_all j p n xs a b) x (drop k (at (next j) masks))) first ∙ ap (M (reshared_all j p n xs a b) r) second)

-- a phase of both worlds
pub both_turned : Facts → (v j : Party) (p q : List ℕ) (n m : ℕ) (xs ys : List Shares) (cs : List ℕ) (masks : Three (List ℕ)) (a r b u : List ℕ) (xs' ys' : List Shares) (cs' : List ℕ)
    → length p ≡ n → length q ≡ n → length xs ≡ m → length ys ≡ m → length a ≡ m * n → length b ≡ m * n
    → at (before j) masks ≡ a ++ r → at (next j) masks ≡ b ++ u → AreTurned v j p q n a b xs ys cs xs' ys' cs'
    → phase_both v j p q n (both_at xs ys cs masks) ≡ both_at xs' ys' cs' (masks_behind j r u masks)
both_turned facts v j p q n m xs ys cs masks a r b u xs' ys' cs' hp hq hx hy ha hb e f h =
    let d = phase_change v j p q n xs ys in
    let masks' = put (before v) (xors (at (before v) masks) d) masks in
    let kx : length xs * n ≡ m * n = ap (λ k. k * n) hx in
    let ky : length ys * n ≡ m * n = ap (λ k. k * n) hy in
    let count = changes_count facts v j p q n m (both_at xs ys cs masks) hp hq (record { one = hx; other = hy }) in
    let own = λ (t : same_party j v ≡ true). let k : length d ≡ m * n = count ∙ ap (λ s. if s then m * n else 0) (sees_own v j t) in k ∙ sym ha in
    let following = λ (t : same_party j (next v) ≡ true). let k : length d ≡ m * n = count ∙ ap (λ s. if s then m * n else 0) (sees_next v j t) in k ∙ sym hb in
    let a' = taken_up (same_party j v) a d in
    let b' = taken_up (same_party j (next v)) b d in
    let first : at (before j) masks' ≡ a' ++ r =
    at_masked v (before j) d masks ∙ (ap (λ s. taken_up s (at (before j) masks) d) (before_same j v) ∙ (ap (λ x. taken_up (same_party j v) x d) e ∙ taken_front facts (same_party j v) a r d own)) in
    let second : at (next j) masks' ≡ b' ++ u =
    at_masked v (next j) d masks ∙ (ap (λ s. taken_up s (at (next j) masks) d) (next_same j v) ∙ (ap (λ x. taken_up (same_party j (next v)) x d) f ∙ taken_front facts (same_party j (next v)) b u d following)) in
    let third : at j masks' ≡ at j masks =
    at_masked v j d masks ∙ taken_none (same_party j (before v)) (at j masks) d (λ t. unmasked (party_same j (before v) t)) in
    let one = one_phase j p n xs masks a r b u e f (ha ∙ sym kx) (hb ∙ sym kx) ∙ ap (λ ss. let M : Moving = record { shares = ss; masks = masks_behind j r u masks } in M) (sym h.one_is) in
    let other = one_phase j q n ys masks' a' r b' u first second (taken_long facts (same_party j v) a d own ∙ (ha ∙ sym ky)) (taken_long facts (same_party j (next v)) b d following ∙ (hb ∙ sym ky))
    ∙ (ap (λ ss. let M : Moving = record { shares = ss; masks = masks_behind j r u masks' } in M) (sym h.other_is)
    ∙ ap (λ z. let M : Moving = record { shares = ys'; masks = z } in M) (put_three j r u masks' masks third)) in
    let B : Moving → Moving → List ℕ → Both = λ x y z. record { one = x; other = y; changes = z } in
    ap (λ x. B x (phase j q n (record { shares = ys; masks = masks' })) (cs ++ d)) one
    ∙ (ap (λ y. B (record { shares = xs'; masks = masks_behind j r u masks }) y (cs ++ d)) other
    ∙ ap (B (record { shares = xs'; masks = masks_behind j r u masks }) (record { shares = ys'; masks = masks_behind j r u masks })) (sym h.changes)) where
      unmasked : j ≡ before v → phase_change v j p q n xs ys ≡ []
      unmasked t =
          ap (λ i. phase_change v i p q n xs ys) t
          ∙ (ap (λ x. xors x (bare_phase v (before v) q n (record { shares = ys; masks = masks }))) (bare_of_before v p n (record { shares = xs; masks = masks }))
          ∙ bare_of_before v q n (record { shares = ys; masks = masks }))

-- ---- Reveal

-- the order of a phase in the second world
order_put : (v j : Party) (order : List ℕ) (ds : ThreeTapes) (o : List ℕ) → order_in (changed order [] (at (before v) ds)) ≡ order → o ≡ order_in (at j ds)
    → (if same_party j (before v) then order else o) ≡ order_in (at j (with_order v order ds))
order_put First First order ds o e f = f
order_put First Second order ds o e f = f
order_put First Third order ds o e f = sym e
order_put Second First order ds o e f = sym e
order_put Second Second order ds o e f = f
order_put Second Third order ds o e f = f
order_put Third First order ds o e f = f
order_put Third Second order ds o e f = sym e
order_put Third Third order ds o e f = f

-- the phases of a Reveal, one behind the other, with what each makes
pub record AreThree (v : Party) (n m : ℕ) (order : List ℕ) (one two three : PhaseDraw) (xs ys : List Shares) (changes : List ℕ) : Type 0 where
  pub xs1 : List Shares
  pub ys1 : List Shares
  pub cs1 : List ℕ
  pub xs2 : List Shares
  pub ys2 : List Shares
  pub cs2 : List ℕ
  pub xs3 : List Shares
  pub ys3 : List Shares
  pub first : AreTurned v First one.order (if same_party First (before v) then order else one.order) n one.mask one.other xs ys [] xs1 ys1 cs1
  pub second : AreTurned v Second two.order (if same_party Second (before v) then order else two.order) n two.mask two.other xs1 ys1 cs1 xs2 ys2 cs2
  pub third : AreTurned v Third three.order (if same_party Third (before v) then order else three.order) n three.mask three.other xs2 ys2 cs2 xs3 ys3 changes
  pub xs_many : length xs ≡ m
  pub ys_many : length ys ≡ m
  pub xs1_many : length xs1 ≡ m
  pub ys1_many : length ys1 ≡ m
  pub xs2_many : length xs2 ≡ m
  pub ys2_many : length ys2 ≡ m

second_long : (b : Bool) (n : ℕ) (order o : List ℕ) → length order ≡ n → length o ≡ n → length (if b then order else o) ≡ n
second_long true n order o e f = e
second_long false n order o e f = f

pub three_follow : Facts → (v : Party) (n m : ℕ) (order : List ℕ) (one two three : PhaseDraw) (x y : Machine) (moved changes : List ℕ) (ds : ThreeTapes)
    → length order ≡ n → AreRevealDraws m n one two three → HoldPhases ds one two three → order_in (changed order [] (at (before v) ds)) ≡ order
    → AreThree v n m order one two three (map (shares x) moved) (map (shares y) moved) changes
    → changes ≡ (third_both v ds (with_order v order ds) n (begin_both x y moved ds)).changes
three_follow facts v n m order one two three x y moved changes ds long draws holds e t =
    let es = with_order v order ds in
    let q1 = if same_party First (before v) then order else one.order in
    let q2 = if same_party Second (before v) then order else two.order in
    let q3 = if same_party Third (before v) then order else three.order in
    let masks : Three (List ℕ) = each words_in ds in
    let xs = map (shares x) moved in
    let ys = map (shares y) moved in
    let l1 = second_long (same_party First (before v)) n order one.order long draws.first.order in
    let l2 = second_long (same_party Second (before v)) n order two.order long draws.second.order in
    let l3 = second_long (same_party Third (before v)) n order three.order long draws.third.order in
    let masks1 = masks_behind First two.other three.mask masks in
    let masks2 = masks_behind Second three.other [] masks1 in
    let e1 = both_turned facts v First one.order q1 n m xs ys [] masks one.mask two.other one.other three.mask t.xs1 t.ys1 t.cs1
    draws.first.order l1 t.xs_many t.ys_many draws.first.mask draws.first.other holds.third holds.second t.first in
    let e2 = both_turned facts v Second two.order q2 n m t.xs1 t.ys1 t.cs1 masks1 two.mask three.other two.other [] t.xs2 t.ys2 t.cs2
    draws.second.order l2 t.xs1_many t.ys1_many draws.second.mask draws.second.other holds.first (sym (append-nil two.other)) t.second in
    let e3 = both_turned facts v Third three.order q3 n m t.xs2 t.ys2 t.cs2 masks2 three.mask [] three.other [] t.xs3 t.ys3 changes
    draws.third.order l3 t.xs2_many t.ys2_many draws.third.mask draws.third.other (sym (append-nil three.mask)) (sym (append-nil three.other)) t.third in
    let begin = begin_both x y moved ds in
    let p2 = λ (b : Both). phase_both v Second two.order q2 n b in
    let p3 = λ (b : Both). phase_both v Third three.order q3 n b in
    let orders : phase_both v Third three.order q3 n (phase_both v Second two.order q2 n (phase_both v First one.order q1 n begin)) ≡ third_both v ds es n begin =
    ap (λ o. p3 (p2 (phase_both v First o q1 n begin))) holds.order_one
    ∙ (ap (λ o. p3 (p2 (phase_both v First (order_in ds.first) o n begin))) (order_put v First order ds one.order e holds.order_one)
    ∙ (ap (λ o. p3 (phase_both v Second o q2 n (phase_both v First (order_in ds.first) (order_in es.first) n begin))) holds.order_two
    ∙ (ap (λ o. p3 (phase_both v Second (order_in ds.second) o n (phase_both v First (order_in ds.first) (order_in es.first) n begin))) (order_put v Second order ds two.order e holds.order_two)
    ∙ (ap (λ o. phase_both v Third o q3 n (phase_both v Second (order_in ds.second) (order_in es.second) n (phase_both v First (order_in ds.first) (order_in es.first) n begin))) holds.order_three
    ∙ ap (λ o. phase_both v Third (order_in ds.third) o n (phase_both v Second (order_in ds.second) (order_in es.second) n (phase_both v First (order_in ds.first) (order_in es.first) n begin))) (order_put v Third order ds three.order e holds.order_three))))) in
    sym (ap (λ b. b.changes) (sym orders ∙ (ap (λ b. p3 (p2 b)) e1 ∙ (ap p3 e2 ∙ e3))))

-- ---- Steer

pub record AreTwo (v p : Party) (n m : ℕ) (t u g h : List ℕ) (one : PhaseDraw) (mask other : List ℕ) (xs ys : List Shares) (changes : List ℕ) : Type 0 where
  pub xs1 : List Shares
  pub ys1 : List Shares
  pub cs1 : List ℕ
  pub xs2 : List Shares
  pub ys2 : List Shares
  pub first : AreTurned v (next p) t u n one.mask one.other xs ys [] xs1 ys1 cs1
  pub second : AreTurned v p (composed (inverse_of t) g) (composed (inverse_of u) h) n mask other xs1 ys1 cs1 xs2 ys2 changes
  pub xs_many : length xs ≡ m
  pub ys_many : length ys ≡ m
  pub xs1_many : length xs1 ≡ m
  pub ys1_many : length ys1 ≡ m

-- the masks of the drawn phase, and of the private one
record HaveMasks (p : Party) (a b mask other : List ℕ) (masks : Three (List ℕ)) : Type 0 where
  pub first : at (before (next p)) masks ≡ a ++ []
  pub second : at (next (next p)) masks ≡ b ++ mask
  pub third : at (before p) (masks_behind (next p) [] mask masks) ≡ mask ++ []
  pub fourth : at (next p) (masks_behind (next p) [] mask masks) ≡ other ++ []

have_masks : (p : Party) (a b mask other : List ℕ) (masks : Three (List ℕ)) → at p masks ≡ a → at (before p) masks ≡ b ++ mask → at (next p) masks ≡ other → HaveMasks p a b mask other masks
have_masks First a b mask other masks e f g = record { first = e ∙ sym (append-nil a); second = f; third = sym (append-nil mask); fourth = g ∙ sym (append-nil other) }
have_masks Second a b mask other masks e f g = record { first = e ∙ sym (append-nil a); second = f; third = sym (append-nil mask); fourth = g ∙ sym (append-nil other) }
have_masks Third a b mask other masks e f g = record { first = e ∙ sym (append-nil a); second = f; third = sym (append-nil mask); fourth = g ∙ sym (append-nil other) }

at_words : (p : Party) (ds : ThreeTapes) → at p (each words_in ds) ≡ words_in (at p ds)
at_words First ds = refl
at_words Second ds = refl
at_words Third ds = refl

pub two_follow : Facts → (v p : Party) (n m : ℕ) (u g h : List ℕ) (one : PhaseDraw) (mask other : List ℕ) (x y : Machine) (moved changes : List ℕ) (ds : ThreeTapes)
    → length u ≡ n → length g ≡ n → length h ≡ n → AreSteerDraws m n one mask other → HoldSteer p ds one mask other
    → AreTwo v p n m one.order u g h one mask other (map (shares x) moved) (map (shares y) moved) changes
    → changes ≡ (steer_both v p one.order u g h n (begin_both x y moved ds)).changes
two_follow facts v p n m u g h one mask other x y moved changes ds hu hg hh draws holds t =
    let masks : Three (List ℕ) = each words_in ds in
    let xs = map (shares x) moved in
    let ys = map (shares y) moved in
    let k = have_masks p one.mask one.other mask other masks (at_words p ds ∙ holds.own) (at_words (before p) ds ∙ holds.earlier) (at_words (next p) ds ∙ holds.following) in
    let masks1 = masks_behind (next p) [] mask masks in
    let e1 = both_turned facts v (next p) one.order u n m xs ys [] masks one.mask [] one.other mask t.xs1 t.ys1 t.cs1
    draws.first.order hu t.xs_many t.ys_many draws.first.mask draws.first.other k.first k.second t.first in
    let l1 = facts.lengths.pick g (inverse_of one.order) ∙ hg in
    let l2 = facts.lengths.pick h (inverse_of u) ∙ hh in
    let e2 = both_turned facts v p (composed (inverse_of one.order) g) (composed (inverse_of u) h) n m t.xs1 t.ys1 t.cs1 masks1 mask [] other [] t.xs2 t.ys2 changes
    l1 l2 t.xs1_many t.ys1_many draws.mask_long draws.other_long k.third k.fourth t.second in
    sym (ap (λ b. b.changes) (ap (phase_both v p (composed (inverse_of one.order) g) (composed (inverse_of u) h) n) e1 ∙ e2))

-- ---- phases by other names of what goes into them

pub turned_by : (v j : Party) (p q q' : List ℕ) (n n' : ℕ) (a b : List ℕ) (xs ys : List Shares) (cs : List ℕ) (xs' ys' : List Shares) (cs' : List ℕ) → q ≡ q' → n ≡ n'
    → AreTurned v j p q n a b xs ys cs xs' ys' cs' → AreTurned v j p q' n' a b xs ys cs xs' ys' cs'
turned_by v j p q q' n n' a b xs ys cs xs' ys' cs' e f h =
    subst (λ k. AreTurned v j p q' k a b xs ys cs xs' ys' cs') f (subst (λ o. AreTurned v j p o n a b xs ys cs xs' ys' cs') e h)

pub turned_from : (v j : Party) (p q : List ℕ) (n : ℕ) (a b : List ℕ) (xs us ys ws : List Shares) (cs ds : List ℕ) (xs' ys' : List Shares) (cs' : List ℕ) → xs ≡ us → ys ≡ ws → cs ≡ ds
    → AreTurned v j p q n a b xs ys cs xs' ys' cs' → AreTurned v j p q n a b us ws ds xs' ys' cs'
turned_from v j p q n a b xs us ys ws cs ds xs' ys' cs' e f g h =
    subst (λ z. AreTurned v j p q n a b us ws z xs' ys' cs') g (subst (λ z. AreTurned v j p q n a b us z cs xs' ys' cs') f (subst (λ z. AreTurned v j p q n a b z ys cs xs' ys' cs') e h))

pub turned_as : (v j : Party) (p p' q : List ℕ) (n : ℕ) (a b : List ℕ) (xs ys : List Shares) (cs : List ℕ) (xs' ys' : List Shares) (cs' : List ℕ) → p ≡ p'
    → AreTurned v j p q n a b xs ys cs xs' ys' cs' → AreTurned v j p' q n a b xs ys cs xs' ys' cs'
turned_as v j p p' q n a b xs ys cs xs' ys' cs' e h = subst (λ o. AreTurned v j o q n a b xs ys cs xs' ys' cs') e h
