-- The phases of a Reveal and of a Steer have their masks and words.
use Rattle.std.proofs.Common.{◌≡◌, ℕ, ◌+◌, ◌*◌, ◌≤◌, Bool, true, false, cond, List, [], ◌∷◌, length, take, drop, ap, ◌∙◌, arith, length-drop, length-take}
use Rattle.lanes.specs.declared.party.Party.{Party}
use Rattle.lanes.specs.declared.party.Party.TheVariants.{First, Second, Third}
use Rattle.lanes.specs.declared.three.Three.{Three}
use Rattle.lanes.specs.Party.{next, before}
use Rattle.lanes.specs.Three.{at, put}
use Rattle.lanes.specs.Word.{AreWords}
use Rattle.step_lists.specs.Draws.{order_in}
use Rattle.step_lists.specs.Seen.{same_party}
use Rattle.step_lists.specs.Part.{Given, PartMoving, count_from, takes_from, takes_nothing, when, phase_takes, held_order, steered, behind_order, part_phase, part_first, part_second, part_third, part_drawn, part_private}
use Rattle.party_core.proofs.Counting.{at_put}
use Rattle.party_core.proofs.Fine.{same_is}
use Rattle.party_core.proofs.LongWords.{LaneFacts, dropped_below}
use Rattle.party_core.proofs.Phasing.{IsMoving, Feeds, phase_moves}
use Rattle.party_core.proofs.Progressing.{count_more}

pub count_four : (p : Party) (a b c d : Three ℕ) → count_from p (a ∷ b ∷ c ∷ d ∷ []) ≡ at p a + (at p b + (at p c + at p d))
count_four p a b c d =
    let x = count_more p a (b ∷ c ∷ d ∷ []) in
    let y = count_more p b (c ∷ d ∷ []) in
    let z = count_more p c (d ∷ []) in
    let w = count_more p d [] in
    omega (arith, x, y, z, w)

pub count_three : (p : Party) (a b c : Three ℕ) → count_from p (a ∷ b ∷ c ∷ []) ≡ at p a + (at p b + at p c)
count_three p a b c =
    let x = count_more p a (b ∷ c ∷ []) in
    let y = count_more p b (c ∷ []) in
    let z = count_more p c [] in
    omega (arith, x, y, z)

-- both orders that a party holds have at most n items
pub record AreShort (n : ℕ) (g : Given) : Type 0 where
  pub own : length (order_in g.own) ≤ n
  pub following : length (order_in g.following) ≤ n

held_short : (n : ℕ) (v j : Party) (g : Given) → AreShort n g → length (held_order v j g) ≤ n
held_short n v j g h = by (same_party v j) where
  by : (b : Bool) → length (cond b (order_in g.own) (order_in g.following)) ≤ n
  by true = h.own
  by false = h.following

-- ---- a Reveal

-- the words of a Reveal: w in each phase, and those that are shown
pub record RevealFed (v q : Party) (w shown : ℕ) (x : PartMoving) : Type 0 where
  pub own : length x.own ≡ w + w
  pub following : length x.following ≡ w + w
  pub received : (p : Party)
      → length (at p x.received) ≡ at p (phase_takes v First w) + (at p (phase_takes v Second w) + (at p (phase_takes v Third w) + at p (when (same_party v q) (takes_from (next q) shown))))

pub record IsRevealed (v q : Party) (n m shown : ℕ) (x : PartMoving) : Type 0 where
  pub moves : IsMoving n m x
  pub words : same_party v q ≡ true → shown ≤ length (at (next v) x.received)

shown_count : (v q : Party) (shown : ℕ) → same_party v q ≡ true → at (next v) (when (same_party v q) (takes_from (next q) shown)) ≡ shown
shown_count v q shown e =
    ap (λ b. at (next v) (when b (takes_from (next q) shown))) e
    ∙ ap (λ p. at (next v) (takes_from (next p) shown)) (same_is v q e)
    ∙ at_put (next v) shown takes_nothing

module _ (facts : LaneFacts) where
  pub reveal_moves : (v q : Party) (n m shown : ℕ) (g : Given) (x : PartMoving) → AreShort n g → RevealFed v q (m * n) shown x → IsMoving n m x
      → IsRevealed v q n m shown (part_third v n g x)
  reveal_moves First q n m shown g x s f h =
      let own = f.own in
      let following = f.following in
      let second = f.received Second in
      let third = f.received Third in
      let c = ap (λ c. c * n) h.count in
      let x1 = part_first First n g x in
      let h1 = phase_moves facts n m First First (held_order First First g) x (held_short n First First g s) h (omega (arith, following), omega (arith, third)) in
      let c1 = ap (λ c. c * n) h1.count in
      let x2 = part_second First n g x in
      let h2 = phase_moves facts n m First Second (held_order First Second g) x1 (held_short n First Second g s) h1 (omega (arith, own), omega (arith, second)) in
      let own2 = length-drop (length x1.pairs * n) x.own in
      let following1 = length-drop (length x.pairs * n) x.following in
      let second2 = length-drop (length x1.pairs * n) x.received.second in
      record {
        moves = phase_moves facts n m First Third (held_order First Third g) x2 (held_short n First Third g s) h2 (omega (arith, own, own2, c1), omega (arith, following, following1, c));
        words = λ e. let t = shown_count First q shown e in omega (arith, second, second2, c1, t);
      }
  reveal_moves Second q n m shown g x s f h =
      let own = f.own in
      let following = f.following in
      let first = f.received First in
      let third = f.received Third in
      let c = ap (λ c. c * n) h.count in
      let x1 = part_first Second n g x in
      let h1 = phase_moves facts n m Second First (held_order Second First g) x (held_short n Second First g s) h (omega (arith, own), omega (arith, following)) in
      let c1 = ap (λ c. c * n) h1.count in
      let own1 = length-drop (length x.pairs * n) x.own in
      let following1 = length-drop (length x.pairs * n) x.following in
      let x2 = part_second Second n g x in
      let h2 = phase_moves facts n m Second Second (held_order Second Second g) x1 (held_short n Second Second g s) h1 (omega (arith, following, following1, c), omega (arith, first)) in
      let c2 = ap (λ c. c * n) h2.count in
      let third3 = length-drop (length x2.pairs * n) x.received.third in
      record {
        moves = phase_moves facts n m Second Third (held_order Second Third g) x2 (held_short n Second Third g s) h2 (omega (arith, own, own1, c), omega (arith, third));
        words = λ e. let t = shown_count Second q shown e in omega (arith, third, third3, c2, t);
      }
  reveal_moves Third q n m shown g x s f h =
      let own = f.own in
      let following = f.following in
      let first = f.received First in
      let second = f.received Second in
      let c = ap (λ c. c * n) h.count in
      let x1 = part_first Third n g x in
      let h1 = phase_moves facts n m Third First (held_order Third First g) x (held_short n Third First g s) h (omega (arith, own), omega (arith, first)) in
      let c1 = ap (λ c. c * n) h1.count in
      let own1 = length-drop (length x.pairs * n) x.own in
      let first1 = length-drop (length x.pairs * n) x.received.first in
      let x2 = part_second Third n g x in
      let h2 = phase_moves facts n m Third Second (held_order Third Second g) x1 (held_short n Third Second g s) h1 (omega (arith, own, own1, c), omega (arith, following)) in
      let following2 = length-drop (length x1.pairs * n) x.following in
      record {
        moves = phase_moves facts n m Third Third (held_order Third Third g) x2 (held_short n Third Third g s) h2 (omega (arith, following, following2, c1), omega (arith, second));
        words = λ e. let t = shown_count Third q shown e in omega (arith, first, first1, c, t);
      }

-- ---- a Steer

-- the words of a Steer by p of n rows: w in each phase, and those of the private order
pub record SteerFed (v p : Party) (w n : ℕ) (x : PartMoving) : Type 0 where
  pub own : length x.own ≡ cond (same_party v (next p)) 0 w + cond (same_party v p) 0 w
  pub following : length x.following ≡ cond (same_party (next v) (next p)) 0 w + cond (same_party (next v) p) 0 w
  pub received : (r : Party) → length (at r x.received) ≡ at r (when (same_party v (before p)) (takes_from p n)) + (at r (phase_takes v (next p) w) + at r (phase_takes v p w))

-- each phase is fed
record AreFed (v p : Party) (w n : ℕ) (o : List ℕ) (x : PartMoving) : Type 0 where
  drawn : Feeds v (next p) w (behind_order v p n x)
  private : Feeds v p w (part_phase v (next p) o n (behind_order v p n x))

steer_feeds : (v p : Party) (w n : ℕ) (o : List ℕ) (x : PartMoving) → length x.pairs * n ≡ w → SteerFed v p w n x → AreFed v p w n o x
steer_feeds First First w n o x c f =
    let own = f.own in
    let following = f.following in
    let a = f.received Second in
    let b = f.received Third in
    record { drawn = (omega (arith, own), omega (arith, a)); private = (omega (arith, following), omega (arith, b)) }
steer_feeds Second Second w n o x c f =
    let own = f.own in
    let following = f.following in
    let a = f.received Third in
    let b = f.received First in
    record { drawn = (omega (arith, own), omega (arith, a)); private = (omega (arith, following), omega (arith, b)) }
steer_feeds Third Third w n o x c f =
    let own = f.own in
    let following = f.following in
    let a = f.received First in
    let b = f.received Second in
    record { drawn = (omega (arith, own), omega (arith, a)); private = (omega (arith, following), omega (arith, b)) }
steer_feeds Second First w n o x c f =
    let own = f.own in
    let following = f.following in
    let a = f.received First in
    let d = length-drop (length x.pairs * n) x.following in
    record { drawn = (omega (arith, following), omega (arith, a)); private = (omega (arith, own), omega (arith, following, d, c)) }
steer_feeds Third Second w n o x c f =
    let own = f.own in
    let following = f.following in
    let a = f.received Second in
    let d = length-drop (length x.pairs * n) x.following in
    record { drawn = (omega (arith, following), omega (arith, a)); private = (omega (arith, own), omega (arith, following, d, c)) }
steer_feeds First Third w n o x c f =
    let own = f.own in
    let following = f.following in
    let a = f.received Third in
    let d = length-drop (length x.pairs * n) x.following in
    record { drawn = (omega (arith, following), omega (arith, a)); private = (omega (arith, own), omega (arith, following, d, c)) }
steer_feeds Third First w n o x c f =
    let own = f.own in
    let following = f.following in
    let a = f.received First in
    let d = length-drop (length x.pairs * n) x.own in
    let e = length-drop n x.received.first in
    record { drawn = (omega (arith, own), omega (arith, following)); private = (omega (arith, own, d, c), omega (arith, a, e)) }
steer_feeds First Second w n o x c f =
    let own = f.own in
    let following = f.following in
    let a = f.received Second in
    let d = length-drop (length x.pairs * n) x.own in
    let e = length-drop n x.received.second in
    record { drawn = (omega (arith, own), omega (arith, following)); private = (omega (arith, own, d, c), omega (arith, a, e)) }
steer_feeds Second Third w n o x c f =
    let own = f.own in
    let following = f.following in
    let a = f.received Third in
    let d = length-drop (length x.pairs * n) x.own in
    let e = length-drop n x.received.third in
    record { drawn = (omega (arith, own), omega (arith, following)); private = (omega (arith, own, d, c), omega (arith, a, e)) }

module _ (facts : LaneFacts) where
  -- x with the words of the order dropped
  abbrev passed : Party → ℕ → PartMoving → PartMoving
  passed p n x = record x { received = put p (drop n (at p x.received)) x.received }

  passed_words : (p r : Party) (n m : ℕ) (x : PartMoving) → IsMoving n m x → AreWords (at r (passed p n x).received)
  passed_words First First n m x h = dropped_below facts n x.received.first (h.received First)
  passed_words First Second n m x h = h.received Second
  passed_words First Third n m x h = h.received Third
  passed_words Second First n m x h = h.received First
  passed_words Second Second n m x h = dropped_below facts n x.received.second (h.received Second)
  passed_words Second Third n m x h = h.received Third
  passed_words Third First n m x h = h.received First
  passed_words Third Second n m x h = h.received Second
  passed_words Third Third n m x h = dropped_below facts n x.received.third (h.received Third)

  order_passed : (v p : Party) (n m : ℕ) (x : PartMoving) → IsMoving n m x → IsMoving n m (behind_order v p n x)
  order_passed v p n m x h = by (same_party v (before p)) where
    by : (b : Bool) → IsMoving n m (cond b (passed p n x) x)
    by false = h
    by true = record { pairs = h.pairs; count = h.count; own = h.own; following = h.following; received = λ r. passed_words p r n m x h }

  pub steer_moves : (v p : Party) (n m : ℕ) (secret : List ℕ) (g : Given) (x : PartMoving) → AreShort n g → SteerFed v p (m * n) n x → IsMoving n m x
      → IsMoving n m (part_private v p secret n g x)
  steer_moves v p n m secret g x s f h =
      let o = held_order v (next p) g in
      let fed = steer_feeds v p (m * n) n o x (ap (λ c. c * n) h.count) f in
      let drawn = phase_moves facts n m v (next p) o (behind_order v p n x) (held_short n v (next p) g s) (order_passed v p n m x h) fed.drawn in
      let long = length-take n (steered v p secret g) in
      phase_moves facts n m v p (take n (steered v p secret g)) (part_drawn v p n g x) (omega (arith, long)) drawn fed.private
