-- The two phases of a Steer in both worlds, and the way back.
use Rattle.std.proofs.Common.{◌≡◌, ℕ, ◌*◌, true, List, [], ◌++◌, length, refl, sym, subst, ◌∙◌, ap, arith}
use Rattle.std.proofs.lemmas.List.{append-nil, length-append, length-map}
use Rattle.lanes.specs.declared.party.Party.{Party}
use Rattle.lanes.specs.declared.party.Party.TheVariants.{First, Second, Third}
use Rattle.lanes.specs.Party.{next, before}
use Rattle.lanes.specs.Three.{at, put}
use Rattle.tapes.specs.declared.draw.Draw.{Draw}
use Rattle.tapes.specs.Order.{composed, inverse_of}
use Rattle.step_lists.specs.Seen.{same_party}
use Rattle.step_lists.specs.Draws.{ThreeTapes, words_in, order_in}
use Rattle.step_lists.specs.Phases.{phase_words}
use Rattle.step_lists.specs.Machine.{Machine, shares}
use Rattle.step_lists.specs.Twin.{Both, begin_both, drawn_both, steer_both, changed}
use Rattle.twin.proofs.Facts.{Facts}
use Rattle.twin.proofs.Same.{HeldSame, SameWords}
use Rattle.twin.proofs.PhasesBoth.{AreSeen, sees, phase_changes}
use Rattle.twin.proofs.PhasesPaired.{Paired, paired, paired_words, begins}
use Rattle.twin.proofs.PhasesDrawn.{OrdersAre, SteerDrawn, steer_words_of}
use Rattle.twin.proofs.PhasesCount.{AreMany, still_many, masked_count, changes_count, same_order}
use Rattle.twin.proofs.PhasesThree.{AreOrders}
use Rattle.twin.proofs.RevealsTurned.{new_order}
use Rattle.twin.proofs.SteersFit.{twin_steers}

-- ---- what the viewer sees of the orders

pub drawn_seen : (v p : Party) (t g h : List ℕ) → AreSeen (sees v (next p)) t (twin_steers v p t g h)
drawn_seen First First t g h = refl
drawn_seen First Second t g h = tt
drawn_seen First Third t g h = refl
drawn_seen Second First t g h = refl
drawn_seen Second Second t g h = refl
drawn_seen Second Third t g h = tt
drawn_seen Third First t g h = tt
drawn_seen Third Second t g h = refl
drawn_seen Third Third t g h = refl

-- what is sent is equal where the viewer is the party before, and the private order where it is the party itself
pub private_seen : (v p : Party) (t g h : List ℕ) → (same_party v p ≡ true → g ≡ h)
    → (same_party p (next v) ≡ true → composed (inverse_of t) g ≡ composed (inverse_of (twin_steers v p t g h)) h)
    → AreSeen (sees v p) (composed (inverse_of t) g) (composed (inverse_of (twin_steers v p t g h)) h)
private_seen First First t g h own sent = ap (composed (inverse_of t)) (own refl)
private_seen First Second t g h own sent = sent refl
private_seen First Third t g h own sent = tt
private_seen Second First t g h own sent = tt
private_seen Second Second t g h own sent = ap (composed (inverse_of t)) (own refl)
private_seen Second Third t g h own sent = sent refl
private_seen Third First t g h own sent = sent refl
private_seen Third Second t g h own sent = tt
private_seen Third Third t g h own sent = ap (composed (inverse_of t)) (own refl)

unseen_drawn : (o cs : List ℕ) (d : List Draw) (n : ℕ) → length o ≡ n → length (order_in d) ≡ n → order_in (changed o cs d) ≡ o
unseen_drawn o cs d n e f = same_order o cs d ∙ new_order o d (e ∙ sym f)

-- the order on the tape of the party behind is the twin's
pub drawn_order : (v p : Party) (n w : ℕ) (g h cs : List ℕ) (ds : ThreeTapes) → length (twin_steers v p (order_in (at (next p) ds)) g h) ≡ n → SteerDrawn p w n ds
    → order_in (at (next p) (put (before v) (changed (twin_steers v p (order_in (at (next p) ds)) g h) cs (at (before v) ds)) ds)) ≡ twin_steers v p (order_in (at (next p) ds)) g h
drawn_order First First n w g h cs ds long drawn = refl
drawn_order First Second n w g h cs ds long drawn = unseen_drawn _ cs _ n long drawn.order.long
drawn_order First Third n w g h cs ds long drawn = refl
drawn_order Second First n w g h cs ds long drawn = refl
drawn_order Second Second n w g h cs ds long drawn = refl
drawn_order Second Third n w g h cs ds long drawn = unseen_drawn _ cs _ n long drawn.order.long
drawn_order Third First n w g h cs ds long drawn = unseen_drawn _ cs _ n long drawn.order.long
drawn_order Third Second n w g h cs ds long drawn = refl
drawn_order Third Third n w g h cs ds long drawn = refl

-- the unseen tape has no other order
pub drawn_only : (v p : Party) (n w : ℕ) (ds : ThreeTapes) → SteerDrawn p w n ds → OrdersAre (order_in (at (next p) ds)) (at (before v) ds)
drawn_only First First n w ds h = h.none Third (order_in (at (next First) ds)) refl
drawn_only First Second n w ds h = h.order.only
drawn_only First Third n w ds h = h.none Third (order_in (at (next Third) ds)) refl
drawn_only Second First n w ds h = h.none First (order_in (at (next First) ds)) refl
drawn_only Second Second n w ds h = h.none First (order_in (at (next Second) ds)) refl
drawn_only Second Third n w ds h = h.order.only
drawn_only Third First n w ds h = h.order.only
drawn_only Third Second n w ds h = h.none Second (order_in (at (next Second) ds)) refl
drawn_only Third Third n w ds h = h.none Second (order_in (at (next Third) ds)) refl

-- ---- two phases

pub record IsSteered (v p : Party) (n : ℕ) (t u g h : List ℕ) (b c : Both) : Type 0 where
  pub paired : Paired v (steer_both v p t u g h n b) (steer_both v p u t h g n c) []
  pub first : SameWords v (phase_words (next p) t n b.one) (phase_words (next p) u n c.one)
  pub second :
      SameWords v (phase_words p (composed (inverse_of t) g) n (drawn_both v p t u n b).one)
      (phase_words p (composed (inverse_of u) h) n (drawn_both v p u t n c).one)

abbrev pub two_changes : Party → Party → List ℕ → List ℕ → List ℕ → List ℕ → ℕ → Both → List ℕ
two_changes v p t u g h n b =
    phase_changes v (next p) t u n b ++ (phase_changes v p (composed (inverse_of t) g) (composed (inverse_of u) h) n (drawn_both v p t u n b) ++ [])

steered_two : Facts → (v p : Party) (n : ℕ) (t u g h : List ℕ) (b c : Both) → AreOrders v (next p) n t u
    → AreOrders v p n (composed (inverse_of t) g) (composed (inverse_of u) h) → Paired v b c (two_changes v p t u g h n b) → IsSteered v p n t u g h b c
steered_two facts v p n t u g h b c i i' start =
    let sent = composed (inverse_of t) g in
    let sent' = composed (inverse_of u) h in
    let rest = phase_changes v p sent sent' n (drawn_both v p t u n b) in
    let one = paired facts v (next p) t u n b c (rest ++ []) i.one i.other i.seen start in
    record {
      paired = paired facts v p sent sent' n (drawn_both v p t u n b) (drawn_both v p u t n c) [] i'.one i'.other i'.seen one;
      first = paired_words facts v (next p) t u n b c (rest ++ []) i.one i.seen start;
      second = paired_words facts v p sent sent' n (drawn_both v p t u n b) (drawn_both v p u t n c) [] i'.one i'.seen one;
    }

-- so many words are changed as the unseen tape holds
two_sum : (v p : Party) (w : ℕ) (xs ys : List ℕ) → length xs ≡ masked_count v (next p) w → length ys ≡ masked_count v p w
    → length (xs ++ (ys ++ [])) ≡ steer_words_of p (before v) w
two_sum First First w xs ys a b = omega (arith, length-append xs (ys ++ []), length-append {A = ℕ} ys [])
two_sum First Second w xs ys a b = omega (arith, length-append xs (ys ++ []), length-append {A = ℕ} ys [])
two_sum First Third w xs ys a b = omega (arith, length-append xs (ys ++ []), length-append {A = ℕ} ys [])
two_sum Second First w xs ys a b = omega (arith, length-append xs (ys ++ []), length-append {A = ℕ} ys [])
two_sum Second Second w xs ys a b = omega (arith, length-append xs (ys ++ []), length-append {A = ℕ} ys [])
two_sum Second Third w xs ys a b = omega (arith, length-append xs (ys ++ []), length-append {A = ℕ} ys [])
two_sum Third First w xs ys a b = omega (arith, length-append xs (ys ++ []), length-append {A = ℕ} ys [])
two_sum Third Second w xs ys a b = omega (arith, length-append xs (ys ++ []), length-append {A = ℕ} ys [])
two_sum Third Third w xs ys a b = omega (arith, length-append xs (ys ++ []), length-append {A = ℕ} ys [])

two_count : Facts → (v p : Party) (n c : ℕ) (t u g h : List ℕ) (b : Both) → AreOrders v (next p) n t u
    → AreOrders v p n (composed (inverse_of t) g) (composed (inverse_of u) h) → AreMany c b
    → length (two_changes v p t u g h n b) ≡ steer_words_of p (before v) (c * n)
two_count facts v p n c t u g h b i i' many =
    let sent = composed (inverse_of t) g in
    let sent' = composed (inverse_of u) h in
    two_sum v p (c * n) (phase_changes v (next p) t u n b) (phase_changes v p sent sent' n (drawn_both v p t u n b))
    (changes_count facts v (next p) t u n c b i.one i.other many)
    (changes_count facts v p sent sent' n c (drawn_both v p t u n b) i'.one i'.other (still_many v (next p) t u n c b many))

two_added : (v p : Party) (n : ℕ) (t u g h : List ℕ) (b : Both) → b.changes ≡ [] → (steer_both v p t u g h n b).changes ≡ two_changes v p t u g h n b
two_added v p n t u g h b e =
    let x = phase_changes v (next p) t u n b in
    let y = phase_changes v p (composed (inverse_of t) g) (composed (inverse_of u) h) n (drawn_both v p t u n b) in
    ap (λ z. (z ++ x) ++ y) e ∙ ap (λ z. x ++ z) (sym (append-nil y))

pub steer_turns : Facts → (v p : Party) (n : ℕ) (t u g h : List ℕ) (x y : Machine) (moved : List ℕ) (ds : ThreeTapes) → AreOrders v (next p) n t u
    → AreOrders v p n (composed (inverse_of t) g) (composed (inverse_of u) h) → HeldSame v x.registers y.registers
    → length (words_in (at (before v) ds)) ≡ steer_words_of p (before v) (length moved * n)
    → IsSteered v p n t u g h (begin_both x y moved ds)
    (begin_both y x moved (put (before v) (changed u (steer_both v p t u g h n (begin_both x y moved ds)).changes (at (before v) ds)) ds))
steer_turns facts v p n t u g h x y moved ds i i' held long =
    let b = begin_both x y moved ds in
    let cs = (steer_both v p t u g h n b).changes in
    let added = two_added v p n t u g h b refl in
    let many : AreMany (length moved) b = record { one = length-map moved (shares x); other = length-map moved (shares y) } in
    let few : length cs ≡ steer_words_of p (before v) (length moved * n) = ap length added ∙ two_count facts v p n (length moved) t u g h b i i' many in
    let es = put (before v) (changed u cs (at (before v) ds)) ds in
    steered_two facts v p n t u g h b (begin_both y x moved es) i i'
    (subst (Paired v b (begin_both y x moved es)) added (begins facts v x y moved ds u cs held (omega arith)))
