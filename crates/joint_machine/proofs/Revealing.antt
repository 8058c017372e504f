-- Three phases one after the other, and what is shown behind them.
use Rattle.std.proofs.Common.{◌≡◌, ℕ, zero, suc, ◌*◌, ◌≤◌, List, [], ◌∷◌, Vec, length, map, take, drop, refl, sym, subst, ◌∙◌, ap, arith}
use Rattle.std.specs.Global.{Global}
use Rattle.std.specs.List.{flat_map}
use Rattle.std.proofs.lemmas.List.{length-map, length-take-le, append-nil}
use Rattle.lanes.specs.declared.party.Party.{Party}
use Rattle.lanes.specs.declared.party.Party.TheVariants.{First, Second, Third}
use Rattle.lanes.specs.declared.three.Three.{Three}
use Rattle.lanes.specs.Items.{LaneLengths}
use Rattle.lanes.specs.Lanes.{xors, picked}
use Rattle.lanes.specs.Party.{next, before}
use Rattle.lanes.specs.Three.{at, opened}
use Rattle.step_lists.specs.Draws.{ThreeTapes, order_in}
use Rattle.step_lists.specs.Phases.{Shares, Links, there, back, reshared, reshared_all, there_all, back_all, Moving, phase, phase_words, message, behind_on}
use Rattle.step_lists.specs.Machine.{Machine, shares, moving, delivered, with_shares, with_more_slots, first_phase, second_phase, third_phase}
use Rattle.joint_machine.specs.Ready.{HasRows, HaveRows}
use Rattle.joint_machine.specs.Seen.{lists}
use Rattle.joint_machine.specs.Steps.{IsPhase, PhaseDraw, IsDrawnFor, HoldPhases, IsReveal, shown_of}
use Rattle.joint_machine.proofs.Cutting.{HasFront, enough, cut}
use Rattle.joint_machine.proofs.LinkLists.{behind_assoc}

-- a phase of the machine is the phase of what is moved
pub record IsPhaseOf (m : Machine) (j : Party) (o : List ℕ) (n : ℕ) (x : Moving) (c d : List ℕ) (made : List Shares) (new : Machine) : Type 0 where
  pub shares : made ≡ (phase j o n x).shares
  pub sent : new ≡ delivered (phase_words j o n x) m
  pub mask : at (before j) (phase j o n x).masks ≡ c
  pub other : at (next j) (phase j o n x).masks ≡ d
  pub own : at j (phase j o n x).masks ≡ at j x.masks

abbrev sent_by : Machine → Party → List ℕ → ℕ → List Shares → List ℕ → List ℕ → Machine
sent_by m j p k ss a b = delivered (behind_on (message (before j) j (there_all j p k ss a)) (message j (before j) (back_all j p k ss b))) m

pub phase_of : (m : Machine) (j : Party) (p o : List ℕ) (n : ℕ) (x : Moving) (ss : List Shares) (a b c d : List ℕ) (made : List Shares) (new : Machine)
    → IsPhase m j p ss a b made new → p ≡ o → length p ≡ n → ss ≡ x.shares → HasFront j n x a b c d → IsPhaseOf m j o n x c d made new
phase_of m j p o n x ss a b c d made new h e l s front =
    let is = cut j o n x a b c d front in
    record {
      shares =
          h.made ∙ (ap (λ k. reshared_all j p k ss a b) l ∙ (ap (λ p. reshared_all j p n ss a b) e ∙ (ap (λ ss. reshared_all j o n ss a b) s ∙ sym is.shares)));
      sent =
          h.sent ∙ (ap (λ k. sent_by m j p k ss a b) l ∙ (ap (λ p. sent_by m j p n ss a b) e ∙ (ap (λ ss. sent_by m j o n ss a b) s ∙ ap (λ words. delivered words m) (sym is.words))));
      mask = is.mask;
      other = is.other;
      own = is.own;
    }

-- ---- rows and counts behind a phase

sum_long : (n : ℕ) (j : Party) (o : List ℕ) (s : Shares) (a b : List ℕ) → LaneLengths → length o ≡ n → length a ≡ n → length b ≡ n
    → length (xors (there j o s a) (back j o s b)) ≡ n
sum_long n j o s a b lengths ho ha hb =
    let x = xors (at (before j) s) (at j s) in
    let y = at (next j) s in
    let px : length (picked o x) ≡ length o = lengths.pick o x in
    let py : length (picked o y) ≡ length o = lengths.pick o y in
    let lt = lengths.xor (picked o x) a in
    let lb = lengths.xor (picked o y) b in
    let ls = lengths.xor (there j o s a) (back j o s b) in
    omega arith

pub all_count : (j : Party) (o : List ℕ) (n : ℕ) (ss : List Shares) (a b : List ℕ) → length (reshared_all j o n ss a b) ≡ length ss
all_count j o n [] a b = refl
all_count j o n (s ∷ ss) a b = ap suc (all_count j o n ss (drop n a) (drop n b))

pub count_made : (m : Machine) (j : Party) (o : List ℕ) (ss : List Shares) (a b : List ℕ) (made : List Shares) (new : Machine) → IsPhase m j o ss a b made new → length made ≡ length ss
count_made m j o ss a b made new h = ap length h.made ∙ all_count j o (length o) ss a b

row_made : (n : ℕ) (j : Party) (o : List ℕ) (s : Shares) (a b : List ℕ) → LaneLengths → length o ≡ n → length a ≡ n → length b ≡ n → HasRows n (reshared j o s a b)
row_made n First o s a b lengths ho ha hb = record { first = sum_long n First o s a b lengths ho ha hb; second = hb; third = ha }
row_made n Second o s a b lengths ho ha hb = record { first = ha; second = sum_long n Second o s a b lengths ho ha hb; third = hb }
row_made n Third o s a b lengths ho ha hb = record { first = hb; second = ha; third = sum_long n Third o s a b lengths ho ha hb }

rows_all : LaneLengths → (n : ℕ) (j : Party) (o : List ℕ) (ss : List Shares) (a b : List ℕ) → length o ≡ n → length ss * n ≤ length a → length ss * n ≤ length b
    → HaveRows n (reshared_all j o n ss a b)
rows_all lengths n j o [] a b ho h i k lt = absurd (omega arith)
rows_all lengths n j o (s ∷ ss) a b ho h i zero lt =
    let ea = enough (length ss) n a h in
    let eb = enough (length ss) n b i in
    row_made n j o s (take n a) (take n b) lengths ho (length-take-le n a ea.first) (length-take-le n b eb.first)
rows_all lengths n j o (s ∷ ss) a b ho h i (suc k) lt =
    let ea = enough (length ss) n a h in
    let eb = enough (length ss) n b i in
    rows_all lengths n j o ss (drop n a) (drop n b) ho ea.rest eb.rest k (omega arith)

-- rows and counts of vectors of registers
pub rows_turned : LaneLengths → (j : Party) (o : List ℕ) (ss turned : List (Three (Vec ℕ Global))) (a b : List ℕ) → map lists turned ≡ reshared_all j o (length o) (map lists ss) a b
    → length a ≡ length ss * length o → length b ≡ length ss * length o → HaveRows (length o) (map lists turned)
rows_turned lengths j o ss turned a b e ha hb =
    let k : length (map lists ss) * length o ≡ length ss * length o = ap (λ k. k * length o) (length-map ss lists) in
    subst (HaveRows (length o)) (sym e) (rows_all lengths (length o) j o (map lists ss) a b refl (omega arith) (omega arith))

pub count_turned : (j : Party) (o : List ℕ) (ss turned : List (Three (Vec ℕ Global))) (a b : List ℕ) → map lists turned ≡ reshared_all j o (length o) (map lists ss) a b
    → length turned ≡ length ss
count_turned j o ss turned a b e =
    sym (length-map turned lists) ∙ (ap length e ∙ (all_count j o (length o) (map lists ss) a b ∙ length-map ss lists))

-- ---- the whole

last_form : (m : Machine) (to : Party) (made : List Shares) (slots : List (List ℕ)) (w1 w2 w3 w4 : Links)
    → with_shares (with_more_slots (delivered w4 (delivered w3 (delivered w2 (delivered w1 m)))) to slots) made
    ≡ delivered (behind_on w1 (behind_on w2 (behind_on w3 w4))) (with_more_slots (with_shares m made) to slots)
last_form m to made slots w1 w2 w3 w4 =
    ap (λ links. record (with_more_slots (with_shares m made) to slots) { links = links })
    (behind_assoc (behind_on (behind_on m.links w1) w2) w3 w4
    ∙ (behind_assoc (behind_on m.links w1) w2 (behind_on w3 w4) ∙ behind_assoc m.links w1 (behind_on w2 (behind_on w3 w4))))

pub reveal_is : (m m1 m2 m3 m4 m5 : Machine) (n : ℕ) (to : Party) (moved shown : List ℕ) (ds : ThreeTapes) (one two three : PhaseDraw) (start made1 made2 made3 : List Shares)
    → start ≡ map (shares m) moved
    → IsDrawnFor n (length moved * n) one → IsDrawnFor n (length moved * n) two → IsDrawnFor n (length moved * n) three → HoldPhases ds one two three
    → IsPhase m First one.order start one.mask one.other made1 m1
    → IsPhase m1 Second two.order made1 two.mask two.other made2 m2
    → IsPhase m2 Third three.order made2 three.mask three.other made3 m3
    → m4 ≡ with_more_slots (delivered (message (next to) to (flat_map (at (before to)) (shown_of made3 shown))) m3) to (map opened (shown_of made3 shown))
    → m5 ≡ with_shares m4 made3
    → IsReveal m n to moved shown ds m5
reveal_is m m1 m2 m3 m4 m5 n to moved shown ds one two three start made1 made2 made3 es l1 l2 l3 holds p1 p2 p3 e4 e5 =
    let x = moving m moved ds in
    let y = first_phase n ds x in
    let z = second_phase n ds x in
    let w = third_phase n ds x in
    let cx : length x.shares ≡ length moved = length-map moved (shares m) in
    let kx : length x.shares * n ≡ length moved * n = ap (λ k. k * n) cx in
    let f1 : HasFront First n x one.mask one.other two.other three.mask =
    record { mask = holds.third; other = holds.second; mask_long = l1.mask ∙ sym kx; other_long = l1.other ∙ sym kx } in
    let h1 = phase_of m First one.order (order_in ds.first) n x start one.mask one.other two.other three.mask made1 m1 p1 holds.order_one l1.order es f1 in
    let cy : length y.shares ≡ length moved = ap length (sym h1.shares) ∙ (count_made m First one.order start one.mask one.other made1 m1 p1 ∙ (ap length es ∙ cx)) in
    let ky : length y.shares * n ≡ length moved * n = ap (λ k. k * n) cy in
    let f2 : HasFront Second n y two.mask two.other three.other [] =
    record { mask = h1.own ∙ holds.first; other = h1.mask ∙ sym (append-nil two.other); mask_long = l2.mask ∙ sym ky; other_long = l2.other ∙ sym ky } in
    let h2 = phase_of m1 Second two.order (order_in ds.second) n y made1 two.mask two.other three.other [] made2 m2 p2 holds.order_two l2.order h1.shares f2 in
    let cz : length z.shares ≡ length moved = ap length (sym h2.shares) ∙ (count_made m1 Second two.order made1 two.mask two.other made2 m2 p2 ∙ (ap length h1.shares ∙ cy)) in
    let kz : length z.shares * n ≡ length moved * n = ap (λ k. k * n) cz in
    let f3 : HasFront Third n z three.mask three.other [] [] =
    record {
      mask = h2.own ∙ (h1.other ∙ sym (append-nil three.mask));
      other = h2.mask ∙ sym (append-nil three.other);
      mask_long = l3.mask ∙ sym kz;
      other_long = l3.other ∙ sym kz;
    } in
    let h3 = phase_of m2 Third three.order (order_in ds.third) n z made2 three.mask three.other [] [] made3 m3 p3 holds.order_three l3.order h2.shares f3 in
    let w1 = phase_words First (order_in ds.first) n x in
    let w2 = phase_words Second (order_in ds.second) n y in
    let w3 = phase_words Third (order_in ds.third) n z in
    let e3 : m3 ≡ delivered w3 (delivered w2 (delivered w1 m)) =
    h3.sent ∙ ap (delivered w3) (h2.sent ∙ ap (delivered w2) h1.sent) in
    let words = λ (made : List Shares). message (next to) to (flat_map (at (before to)) (shown_of made shown)) in
    let slots = λ (made : List Shares). map opened (shown_of made shown) in
    e5
    ∙ (ap (λ m. with_shares m made3) (e4 ∙ ap (λ m. with_more_slots (delivered (words made3) m) to (slots made3)) e3)
    ∙ (ap (λ made. with_shares (with_more_slots (delivered (words made) (delivered w3 (delivered w2 (delivered w1 m)))) to (slots made)) made) h3.shares
    ∙ last_form m to w.shares (slots w.shares) w1 w2 w3 (words w.shares)))
