-- What two machines have that are ready for a step.
use Rattle.std.proofs.Common.{◌≡◌, ℕ, zero, suc, ◌<◌, ◌^◌, Bool, List, [], ◌∷◌, length, map, replicate, refl, sym, subst, ◌∙◌, ap, lit<, arith}
use Rattle.std.specs.Prelude.{IsTrue, ◌==◌, ◌&&◌, not, nat_lt, slice_index, slice_index_or}
use Rattle.std.specs.List.{AllZip, AllByRecursion, list_all}
use Rattle.std.proofs.lemmas.List.{length-replicate}
use Rattle.lanes.specs.declared.party.Party.{Party}
use Rattle.lanes.specs.declared.party.Party.TheVariants.{First, Second, Third}
use Rattle.lanes.specs.declared.three.Three.{Three}
use Rattle.lanes.specs.Three.{at, each}
use Rattle.tapes.specs.Order.{IsOrder}
use Rattle.step_lists.specs.declared.step.Shape.{Shape}
use Rattle.step_lists.specs.declared.step.Shape.TheVariants as shapes
use Rattle.step_lists.specs.declared.step.Step.{Step}
use Rattle.step_lists.specs.declared.step.Step.TheVariants.{And, Share, Reveal, Steer, Tell, Flag}
use Rattle.step_lists.specs.Layout.{Layout, party_of, grown, length_of, shape_of, words_in_slot, rows_moved}
use Rattle.step_lists.specs.Rules.{is_fine, is_small, fits_layout, is_register, is_slot, is_party, is_words, is_one_word, is_order_of, is_empty, move_together}
use Rattle.step_lists.specs.Shapes.{HasLength, HasShape, HaveShapes}
use Rattle.tapes.specs.declared.draw.Need.TheVariants.{Word as NeedsWord}
use Rattle.step_lists.specs.Draws.{ThreeTapes, needs_each, nothing}
use Rattle.step_lists.specs.Machine.{Machine, shares, slot_of}
use Rattle.joint_machine.specs.Opens.{IsLong}
use Rattle.joint_machine.specs.Ready.{HasRows, HaveRows, IsMade}
use Rattle.joint_machine.specs.Stepping.{IsReady}
use Rattle.joint_machine.specs.Steps.{rows_of_all}
use Rattle.twin.proofs.Lists.{true_apart, both, below, equal, all_hold, zip_at}
use Rattle.twin.proofs.Fitted.{shaped_words}
use Rattle.twin.proofs.PhasesMade.{IsMoved, moved_together}

zip_count : {A B : Type 0} (R : A → B → Type 0) (xs : List A) (ys : List B) → AllZip R xs ys → length xs ≡ length ys
zip_count R [] [] h = refl
zip_count R [] (y ∷ ys) h = absurd h
zip_count R (x ∷ xs) [] h = absurd h
zip_count R (x ∷ xs) (y ∷ ys) h = ap suc (zip_count R xs ys h.1)

all_at : {A : Type 0} (P : A → Type 0) (xs : List A) (k : ℕ) (d : A) → AllByRecursion P xs → k < length xs → P (slice_index_or xs k d)
all_at P [] k d h lt = absurd (omega arith)
all_at P (x ∷ xs) zero d h lt = h.0
all_at P (x ∷ xs) (suc k) d h lt = all_at P xs k d h.1 (omega arith)

-- ---- registers

pub own_rows : (n : ℕ) (s : Three (List ℕ)) → HasRows n s → HasRows (length s.first) s
own_rows n s h = record { first = refl; second = h.second ∙ sym h.first; third = h.third ∙ sym h.first }

pub moved_rows : (m : Machine) (n : ℕ) (moved : List ℕ) (k : ℕ) → k < length moved → HaveRows n (map (shares m) moved) → HasRows n (shares m (slice_index moved k))
moved_rows m n [] k lt h = absurd (omega arith)
moved_rows m n (r ∷ rs) zero lt h = h 0 (omega arith)
moved_rows m n (r ∷ rs) (suc k) lt h = moved_rows m n rs k (omega arith) (λ j i. h (suc j) (omega arith))

abbrev pub AreLong : Layout → Machine → Type 0
AreLong l m = AllZip IsLong l.registers m.registers

is_made : (l : Layout) (m : Machine) (r : ℕ) → AreLong l m → IsTrue (is_register l r) → IsMade m r
is_made l m r h i =
    let e = zip_count IsLong l.registers m.registers h in
    let lt = below r (length l.registers) i in
    omega arith

has_rows : (l : Layout) (m : Machine) (r : ℕ) → AreLong l m → IsTrue (is_register l r) → HasRows (length_of l r) (shares m r)
has_rows l m r h i =
    let s = zip_at IsLong l.registers m.registers r 0 nothing h (below r (length l.registers) i) in
    record { first = s.each First; second = s.each Second; third = s.each Third }

-- ---- slots

abbrev pub AreShaped : Layout → Machine → Type 0
AreShaped l m = (p : Party) → HaveShapes (at p l.slots) (at p m.slots)

slot_below : (l : Layout) (p s : ℕ) → IsTrue (is_slot l p s) → s < length (at (party_of p) l.slots)
slot_below l p s i =
    below s (length (at (party_of p) l.slots)) (both (is_party p) (nat_lt s (length (at (party_of p) l.slots))) i).1

slot_made : (l : Layout) (m : Machine) (p s : ℕ) → AreShaped l m → IsTrue (is_slot l p s) → s < length (at (party_of p) m.slots)
slot_made l m p s h i =
    let e = zip_count HasShape (at (party_of p) l.slots) (at (party_of p) m.slots) (h (party_of p)) in
    let lt = slot_below l p s i in
    omega arith

slot_shaped : (l : Layout) (m : Machine) (p s : ℕ) → AreShaped l m → IsTrue (is_slot l p s) → HasShape (shape_of l (party_of p) s) (slot_of m (party_of p) s)
slot_shaped l m p s h i =
    zip_at HasShape (at (party_of p) l.slots) (at (party_of p) m.slots) s (shapes.Words 0) [] (h (party_of p)) (slot_below l p s i)

-- ---- registers that are moved together

pub record IsReadyMoved (l : Layout) (m : Machine) (moved : List ℕ) : Type 0 where
  pub some : 0 < length moved
  pub made : (k : ℕ) → k < length moved → IsMade m (slice_index moved k)
  pub same : rows_of_all m moved ≡ rows_moved l moved
  pub rows : HaveRows (rows_moved l moved) (map (shares m) moved)

rows_all : (l : Layout) (m : Machine) (n : ℕ) (moved : List ℕ) → AreLong l m → AllByRecursion (IsMoved l n) moved → HaveRows n (map (shares m) moved)
rows_all l m n [] h i k lt = absurd (omega arith)
rows_all l m n (r ∷ rs) h i zero lt = subst (λ n. HasRows n (shares m r)) i.0.long (has_rows l m r h i.0.made)
rows_all l m n (r ∷ rs) h i (suc k) lt = rows_all l m n rs h i.1 k (omega arith)

first_rows : (l : Layout) (m : Machine) (moved : List ℕ) → AreLong l m → IsTrue (not (is_empty moved)) → AllByRecursion (IsMoved l (rows_moved l moved)) moved
    → rows_of_all m moved ≡ rows_moved l moved
first_rows l m [] h e i = absurd (true_apart e)
first_rows l m (r ∷ rs) h e i = (has_rows l m r h i.0.made).first

some_moved : (moved : List ℕ) → IsTrue (not (is_empty moved)) → 0 < length moved
some_moved [] e = absurd (true_apart e)
some_moved (r ∷ rs) e = omega arith

ready_moved : (l : Layout) (m : Machine) (moved : List ℕ) → AreLong l m → IsTrue (move_together l moved) → IsReadyMoved l m moved
ready_moved l m moved h i =
    let n = rows_moved l moved in
    let are = moved_together l moved i in
    let some = (both (not (is_empty moved)) (list_all (λ r. is_register l r && (length_of l r == n)) moved) i).0 in
    record {
      some = some_moved moved some;
      made = λ k lt. is_made l m (slice_index moved k) h (all_at (IsMoved l n) moved k 0 are lt).made;
      same = first_rows l m moved h some are;
      rows = rows_all l m n moved h are;
    }

pub rows_short : (l : Layout) (moved : List ℕ) → ((r : ℕ) → length_of l r < 2 ^ 32) → rows_moved l moved < 2 ^ 32
rows_short l [] h = lit< tt
rows_short l (r ∷ rs) h = h r

-- ---- steps

order_shape : (n : ℕ) (shape : Shape) (ws : List ℕ) → IsTrue (is_order_of n shape) → HasShape shape ws → HasLength n ws × IsOrder ws
order_shape n (shapes.Words k) ws i h = absurd (true_apart i)
order_shape n (shapes.OrderOf k) ws i h = (subst (λ j. HasLength j ws) (equal k n i) h.0, h.1)

pub record AndReady (m : Machine) (left right n : ℕ) : Type 0 where
  pub made_left : IsMade m left
  pub made_right : IsMade m right
  pub rows_left : HasRows n (shares m left)
  pub rows_right : HasRows n (shares m right)

pub record SlotReady (m : Machine) (p : Party) (slot n : ℕ) : Type 0 where
  pub made : slot < length (at p m.slots)
  pub long : length (slot_of m p slot) ≡ n

pub record RevealReady (l : Layout) (m : Machine) (moved shown : List ℕ) : Type 0 where
  pub are : IsReadyMoved l m moved
  pub shows : (k : ℕ) → k < length shown → slice_index shown k < length moved

pub record SteerReady (l : Layout) (m : Machine) (p : Party) (slot : ℕ) (moved : List ℕ) : Type 0 where
  pub are : IsReadyMoved l m moved
  pub made : slot < length (at p m.slots)
  pub order : IsOrder (slot_of m p slot)
  pub long : length (slot_of m p slot) ≡ rows_moved l moved

module _ {T : Type 0} (accepts : T → List Shape → List Shape → Bool) where
  fits : (l : Layout) (s : Step T) → IsTrue (is_fine accepts l s) → IsTrue (fits_layout accepts l s)
  fits l s h = (both (fits_layout accepts l s) (is_small (grown l s)) h).0

  pub and_ready : (l : Layout) (m : Machine) (left right : ℕ) (ds : ThreeTapes) → IsReady accepts l (And left right) m ds → AndReady m left right (length_of l left)
  and_ready l m left right ds h =
      let one = both (is_register l left && is_register l right) (length_of l left == length_of l right) (fits l (And left right) h.fine) in
      let two = both (is_register l left) (is_register l right) one.0 in
      let e = equal (length_of l left) (length_of l right) one.1 in
      record {
        made_left = is_made l m left h.long two.0;
        made_right = is_made l m right h.long two.1;
        rows_left = has_rows l m left h.long two.0;
        rows_right = subst (λ n. HasRows n (shares m right)) (sym e) (has_rows l m right h.long two.1);
      }

  slot_ready : (l : Layout) (m : Machine) (p slot : ℕ) → AreShaped l m → IsTrue (is_slot l p slot) → SlotReady m (party_of p) slot (words_in_slot l (party_of p) slot)
  slot_ready l m p slot h is =
      let shape = shape_of l (party_of p) slot in
      record {
        made = slot_made l m p slot h is;
        long = (shaped_words shape (slot_of m (party_of p) slot) (slot_shaped l m p slot h is)).long;
      }

  pub share_ready : (l : Layout) (m : Machine) (p slot : ℕ) (ds : ThreeTapes) → IsReady accepts l (Share p slot) m ds → SlotReady m (party_of p) slot (words_in_slot l (party_of p) slot)
  share_ready l m p slot ds h = slot_ready l m p slot h.slots (both (is_slot l p slot) (is_words (shape_of l (party_of p) slot)) (fits l (Share p slot) h.fine)).0

  pub reveal_ready : (l : Layout) (m : Machine) (to : ℕ) (moved shown : List ℕ) (ds : ThreeTapes) → IsReady accepts l (Reveal to moved shown) m ds → RevealReady l m moved shown
  reveal_ready l m to moved shown ds h =
      let one = both ((is_party to && move_together l moved) && not (is_empty shown)) (list_all (λ k. nat_lt k (length moved)) shown) (fits l (Reveal to moved shown) h.fine) in
      let two = both (is_party to && move_together l moved) (not (is_empty shown)) one.0 in
      let three = both (is_party to) (move_together l moved) two.0 in
      let test = λ (k : ℕ). nat_lt k (length moved) in
      record {
        are = ready_moved l m moved h.long three.1;
        shows = λ k lt. below (slice_index shown k) (length moved) (all_at (λ k. IsTrue (test k)) shown k 0 (all_hold test shown one.1) lt);
      }

  pub steer_ready : (l : Layout) (m : Machine) (by slot : ℕ) (moved : List ℕ) (ds : ThreeTapes) → IsReady accepts l (Steer by slot moved) m ds → SteerReady l m (party_of by) slot moved
  steer_ready l m by slot moved ds h =
      let n = rows_moved l moved in
      let shape = shape_of l (party_of by) slot in
      let one = both (is_slot l by slot && move_together l moved) (is_order_of n shape) (fits l (Steer by slot moved) h.fine) in
      let two = both (is_slot l by slot) (move_together l moved) one.0 in
      let order = order_shape n shape (slot_of m (party_of by) slot) one.1 (slot_shaped l m by slot h.slots two.0) in
      record {
        are = ready_moved l m moved h.long two.1;
        made = slot_made l m by slot h.slots two.0;
        order = order.1;
        long = order.0.long;
      }

  pub tell_ready : (l : Layout) (m : Machine) (source target slot : ℕ) (ds : ThreeTapes) → IsReady accepts l (Tell source target slot) m ds → slot < length (at (party_of source) m.slots)
  tell_ready l m source target slot ds h =
      let one = both ((is_slot l source slot && is_party target) && not (source == target)) _ (fits l (Tell source target slot) h.fine) in
      let two = both (is_slot l source slot && is_party target) (not (source == target)) one.0 in
      let three = both (is_slot l source slot) (is_party target) two.0 in
      slot_made l m source slot h.slots three.0

  pub flag_ready : (l : Layout) (m : Machine) (p slot : ℕ) (ds : ThreeTapes) → IsReady accepts l (Flag p slot) m ds → slot < length (at (party_of p) m.slots)
  flag_ready l m p slot ds h =
      let shape = shape_of l (party_of p) slot in
      slot_made l m p slot h.slots (both (is_slot l p slot) (is_one_word shape) (fits l (Flag p slot) h.fine)).0

-- how many draws an And takes of each tape
pub each_count : (n : ℕ) → each length (needs_each n) ≡ record { first = n; second = n; third = n }
each_count n =
    let e = length-replicate n NeedsWord in
    ap (λ k. record { first = k; second = length (replicate n NeedsWord); third = length (replicate n NeedsWord) }) e
    ∙ (ap (λ k. record { first = n; second = k; third = length (replicate n NeedsWord) }) e ∙ ap (λ k. record { first = n; second = n; third = k }) e)
