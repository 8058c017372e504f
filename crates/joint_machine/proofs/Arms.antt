-- Each kind of step: what its method asks for, and that what the method makes is the step.
use Rattle.std.proofs.Common.{◌≡◌, ℕ, suc, ◌+◌, ◌<◌, ◌^◌, Bool, List, length, map, sym, subst, ◌∙◌, arith}
use Rattle.std.specs.Prelude.{IsTrue, ◌==◌, ◌&&◌, not, nat_lt, slice_index, Result, Ok, Err, OnOk}
use Rattle.std.specs.List.{list_all}
use Rattle.lanes.specs.declared.party.Party.{Party}
use Rattle.lanes.specs.Three.{at, each}
use Rattle.tapes.specs.Order.{IsOrder}
use Rattle.step_lists.specs.declared.step.Shape.{Shape}
use Rattle.step_lists.specs.declared.step.Shape.TheVariants as shapes
use Rattle.step_lists.specs.declared.step.Step.{Step}
use Rattle.step_lists.specs.declared.step.Step.TheVariants.{Lin, And, Share, Reveal, Steer, Tell, Work, Flag}
use Rattle.step_lists.specs.Layout.{Layout, party_of, grown, length_of, shape_of, words_in_slot, rows_moved}
use Rattle.step_lists.specs.Rules.{is_register, is_slot, is_party, is_words, is_one_word, is_order_of, is_empty, is_small, is_fine, move_together, fits_layout}
use Rattle.step_lists.specs.Shapes.{HasShape, IsInput}
use Rattle.step_lists.specs.Draws.{ThreeTapes, needs_each, needs_reveal, needs_steer, taken, dropped, words_in}
use Rattle.step_lists.specs.Phases.{no_words}
use Rattle.step_lists.specs.Machine.{Machine, shares, slot_of, delivered}
use Rattle.joint_machine.specs.Ready.{HasRows, IsMade, IsReadyLin}
use Rattle.joint_machine.specs.Left.{AreNext, needs_share}
use Rattle.joint_machine.specs.Steps.{IsAnd, IsShared, IsReveal, IsSteer, register_rows, rows_of_all}
use Rattle.joint_machine.specs.Stepping.{IsReady, IsStepped}
use Rattle.joint_machine.proofs.Listing.{true_apart, both, below, equal, all_hold, all_at, zip_maps}
use Rattle.joint_machine.proofs.LinkLists.{delivered_none}
use Rattle.joint_machine.proofs.OpenFits.{order_shape, shaped_words}
use Rattle.joint_machine.proofs.Readying.{IsReadyMoved, is_made, has_rows, slot_made, slot_shaped, ready_moved, ready_lin, all_below}

pub ok_map : {A E P Q : Type 0} (r : Result A E) → (P → Q) → OnOk r P → OnOk r Q
ok_map (Ok x) f h = f h
ok_map (Err e) f h = tt

pub ok_both : {A E P Q R : Type 0} (r : Result A E) → (P → Q → R) → OnOk r P → OnOk r Q → OnOk r R
ok_both (Ok x) f h i = f h i
ok_both (Err e) f h i = tt

-- nothing is sent
pub quiet : (new m : Machine) → new ≡ m → new ≡ delivered no_words m
quiet new m e = e ∙ sym (delivered_none m)

pub record AndReady (m : Machine) (left right n : ℕ) (ds : ThreeTapes) : Type 0 where
  pub made_left : IsMade m left
  pub made_right : IsMade m right
  pub rows_left : HasRows (register_rows m left) (shares m left)
  pub rows_right : HasRows (register_rows m left) (shares m right)
  pub same : register_rows m left ≡ n
  pub draws : AreNext (needs_each (register_rows m left)) ds

pub record ShareReady (m : Machine) (p : Party) (slot n : ℕ) (ds : ThreeTapes) : Type 0 where
  pub made : slot < length (at p m.slots)
  pub same : length (slot_of m p slot) ≡ n
  pub draws : AreNext (needs_share p (length (slot_of m p slot))) ds

pub record RevealReady (l : Layout) (m : Machine) (moved shown : List ℕ) (ds : ThreeTapes) : Type 0 where
  pub are : IsReadyMoved l m moved
  pub shows : (k : ℕ) → k < length shown → slice_index shown k < length moved
  pub draws : AreNext (needs_reveal (length moved) (rows_of_all m moved)) ds

pub record SteerReady (l : Layout) (m : Machine) (p : Party) (slot : ℕ) (moved : List ℕ) (ds : ThreeTapes) : Type 0 where
  pub are : IsReadyMoved l m moved
  pub made : slot < length (at p m.slots)
  pub order : IsOrder (slot_of m p slot)
  pub long : length (slot_of m p slot) ≡ rows_of_all m moved
  pub draws : AreNext (needs_steer p (length moved) (rows_of_all m moved)) ds

pub record FlagReady (m : Machine) (p : Party) (slot : ℕ) : Type 0 where
  pub made : slot < length (at p m.slots)
  pub one : length (slot_of m p slot) ≡ 1
  pub few : m.flags + 1 < 2 ^ 32

pub record WorkReady {T : Type 0} (accepts : T → List Shape → List Shape → Bool) (m : Machine) (p : Party) (task : T) (takes : List ℕ) : Type 0 where
  pub made : (k : ℕ) → k < length takes → slice_index takes k < length (at p m.slots)
  pub input : IsInput (accepts task) (map (slot_of m p) takes)

one_long : (shape : Shape) (ws : List ℕ) → IsTrue (is_one_word shape) → HasShape shape ws → length ws ≡ 1
one_long (shapes.Words n) ws i h = h.long ∙ equal n 1 i
one_long (shapes.OrderOf n) ws i h = absurd (true_apart i)

module _ {T : Type 0} (accepts : T → List Shape → List Shape → Bool) (answer : T → List (List ℕ) → List (List ℕ)) where
  fits : (l : Layout) (s : Step T) → IsTrue (is_fine accepts l s) → IsTrue (fits_layout accepts l s)
  fits l s h = (both (fits_layout accepts l s) (is_small (grown l s)) h).0

  pub lin_ready : (l : Layout) (m : Machine) (op : _) (ds : ThreeTapes) → IsReady accepts l (Lin op) m ds → (p : Party) → IsReadyLin m p op
  lin_ready l m op ds h p = ready_lin l m p op h.long (fits l (Lin op) h.fine)

  pub and_ready : (l : Layout) (m : Machine) (left right : ℕ) (ds : ThreeTapes) → IsReady accepts l (And left right) m ds → AndReady m left right (length_of l left) ds
  and_ready l m left right ds h =
      let one = both (is_register l left && is_register l right) (length_of l left == length_of l right) (fits l (And left right) h.fine) in
      let two = both (is_register l left) (is_register l right) one.0 in
      let e = equal (length_of l left) (length_of l right) one.1 in
      let a = has_rows l m left h.long two.0 in
      let b = has_rows l m right h.long two.1 in
      let same = a.first in
      record {
        made_left = is_made l m left h.long two.0;
        made_right = is_made l m right h.long two.1;
        rows_left = subst (λ n. HasRows n (shares m left)) (sym same) a;
        rows_right = subst (λ n. HasRows n (shares m right)) (sym e ∙ sym same) b;
        same = same;
        draws = subst (λ n. AreNext (needs_each n) ds) (sym same) h.draws;
      }

  pub and_stepped : (l : Layout) (m : Machine) (left right : ℕ) (ds : ThreeTapes) (new : Machine) (rest : ThreeTapes) → register_rows m left ≡ length_of l left
      → IsAnd m left right (each words_in (taken (needs_each (register_rows m left)) ds)) new → rest ≡ dropped (needs_each (register_rows m left)) ds
      → IsStepped answer l (And left right) m ds new rest
  and_stepped l m left right ds new rest e h i = record {
    machine = subst (λ n. IsAnd m left right (each words_in (taken (needs_each n) ds)) new) e h;
    left = subst (λ n. rest ≡ dropped (needs_each n) ds) e i;
  }

  pub share_ready : (l : Layout) (m : Machine) (p slot : ℕ) (ds : ThreeTapes) → IsReady accepts l (Share p slot) m ds
      → ShareReady m (party_of p) slot (words_in_slot l (party_of p) slot) ds
  share_ready l m p slot ds h =
      let shape = shape_of l (party_of p) slot in
      let is = (both (is_slot l p slot) (is_words shape) (fits l (Share p slot) h.fine)).0 in
      let same = (shaped_words shape (slot_of m (party_of p) slot) (slot_shaped l m p slot h.slots is)).long in
      record {
        made = slot_made l m p slot h.slots is;
        same = same;
        draws = subst (λ n. AreNext (needs_share (party_of p) n) ds) (sym same) h.draws;
      }

  pub share_stepped : (l : Layout) (m : Machine) (p slot : ℕ) (ds : ThreeTapes) (new : Machine) (rest : ThreeTapes)
      → length (slot_of m (party_of p) slot) ≡ words_in_slot l (party_of p) slot
      → IsShared m (party_of p) slot (taken (needs_share (party_of p) (length (slot_of m (party_of p) slot))) ds) new
      → rest ≡ dropped (needs_share (party_of p) (length (slot_of m (party_of p) slot))) ds
      → IsStepped answer l (Share p slot) m ds new rest
  share_stepped l m p slot ds new rest e h i = record {
    machine = subst (λ n. IsShared m (party_of p) slot (taken (needs_share (party_of p) n) ds) new) e h;
    left = subst (λ n. rest ≡ dropped (needs_share (party_of p) n) ds) e i;
  }

  pub reveal_ready : (l : Layout) (m : Machine) (to : ℕ) (moved shown : List ℕ) (ds : ThreeTapes) → IsReady accepts l (Reveal to moved shown) m ds
      → RevealReady l m moved shown ds
  reveal_ready l m to moved shown ds h =
      let one = both ((is_party to && move_together l moved) && not (is_empty shown)) (list_all (λ k. nat_lt k (length moved)) shown) (fits l (Reveal to moved shown) h.fine) in
      let two = both (is_party to && move_together l moved) (not (is_empty shown)) one.0 in
      let three = both (is_party to) (move_together l moved) two.0 in
      let are = ready_moved l m moved h.long three.1 in
      record {
        are = are;
        shows = all_below (length moved) shown one.1;
        draws = subst (λ n. AreNext (needs_reveal (length moved) n) ds) (sym are.same) h.draws;
      }

  pub reveal_stepped : (l : Layout) (m : Machine) (to : ℕ) (moved shown : List ℕ) (ds : ThreeTapes) (new : Machine) (rest : ThreeTapes)
      → rows_of_all m moved ≡ rows_moved l moved
      → IsReveal m (rows_of_all m moved) (party_of to) moved shown (taken (needs_reveal (length moved) (rows_of_all m moved)) ds) new
      → rest ≡ dropped (needs_reveal (length moved) (rows_of_all m moved)) ds
      → IsStepped answer l (Reveal to moved shown) m ds new rest
  reveal_stepped l m to moved shown ds new rest e h i = record {
    machine = subst (λ n. IsReveal m n (party_of to) moved shown (taken (needs_reveal (length moved) n) ds) new) e h;
    left = subst (λ n. rest ≡ dropped (needs_reveal (length moved) n) ds) e i;
  }

  pub steer_ready : (l : Layout) (m : Machine) (by slot : ℕ) (moved : List ℕ) (ds : ThreeTapes) → IsReady accepts l (Steer by slot moved) m ds
      → SteerReady l m (party_of by) slot moved ds
  steer_ready l m by slot moved ds h =
      let n = rows_moved l moved in
      let shape = shape_of l (party_of by) slot in
      let one = both (is_slot l by slot && move_together l moved) (is_order_of n shape) (fits l (Steer by slot moved) h.fine) in
      let two = both (is_slot l by slot) (move_together l moved) one.0 in
      let are = ready_moved l m moved h.long two.1 in
      let order = order_shape n shape (slot_of m (party_of by) slot) one.1 (slot_shaped l m by slot h.slots two.0) in
      record {
        are = are;
        made = slot_made l m by slot h.slots two.0;
        order = order.1;
        long = order.0.long ∙ sym are.same;
        draws = subst (λ n. AreNext (needs_steer (party_of by) (length moved) n) ds) (sym are.same) h.draws;
      }

  pub steer_stepped : (l : Layout) (m : Machine) (by slot : ℕ) (moved : List ℕ) (ds : ThreeTapes) (new : Machine) (rest : ThreeTapes)
      → rows_of_all m moved ≡ rows_moved l moved
      → IsSteer m (rows_of_all m moved) (party_of by) (slot_of m (party_of by) slot) moved (taken (needs_steer (party_of by) (length moved) (rows_of_all m moved)) ds) new
      → rest ≡ dropped (needs_steer (party_of by) (length moved) (rows_of_all m moved)) ds
      → IsStepped answer l (Steer by slot moved) m ds new rest
  steer_stepped l m by slot moved ds new rest e h i = record {
    machine = subst (λ n. IsSteer m n (party_of by) (slot_of m (party_of by) slot) moved (taken (needs_steer (party_of by) (length moved) n) ds) new) e h;
    left = subst (λ n. rest ≡ dropped (needs_steer (party_of by) (length moved) n) ds) e i;
  }

  pub tell_ready : (l : Layout) (m : Machine) (source target slot : ℕ) (ds : ThreeTapes) → IsReady accepts l (Tell source target slot) m ds
      → slot < length (at (party_of source) m.slots)
  tell_ready l m source target slot ds h =
      let one = both ((is_slot l source slot && is_party target) && not (source == target)) _ (fits l (Tell source target slot) h.fine) in
      let two = both (is_slot l source slot && is_party target) (not (source == target)) one.0 in
      let three = both (is_slot l source slot) (is_party target) two.0 in
      slot_made l m source slot h.slots three.0

  pub work_ready : (l : Layout) (m : Machine) (p : ℕ) (task : T) (takes : List ℕ) (gives : List Shape) (ds : ThreeTapes) → IsReady accepts l (Work p task takes gives) m ds
      → WorkReady accepts m (party_of p) task takes
  work_ready l m p task takes gives ds h =
      let accepted = accepts task (map (shape_of l (party_of p)) takes) gives in
      let one = both (is_party p && list_all (is_slot l p) takes) accepted (fits l (Work p task takes gives) h.fine) in
      let two = both (is_party p) (list_all (is_slot l p) takes) one.0 in
      let are = all_hold (is_slot l p) takes two.1 in
      record {
        made = λ k lt. slot_made l m p (slice_index takes k) h.slots (all_at (λ s. IsTrue (is_slot l p s)) takes k 0 are lt);
        input =
            record {
              takes = map (shape_of l (party_of p)) takes;
              gives = gives;
              accepted = one.1;
              shaped =
                  zip_maps HasShape (shape_of l (party_of p)) (slot_of m (party_of p)) (λ s. IsTrue (is_slot l p s)) (λ s j. slot_shaped l m p s h.slots j) takes are;
            };
      }

  pub flag_ready : (l : Layout) (m : Machine) (p slot : ℕ) (ds : ThreeTapes) → IsReady accepts l (Flag p slot) m ds → FlagReady m (party_of p) slot
  flag_ready l m p slot ds h =
      let shape = shape_of l (party_of p) slot in
      let fine = both (fits_layout {T = T} accepts l (Flag p slot)) (is_small (grown {T = T} l (Flag p slot))) h.fine in
      let is = both (is_slot l p slot) (is_one_word shape) fine.0 in
      let small = below (suc l.flags) (2 ^ 32) (both _ (nat_lt (suc l.flags) (2 ^ 32)) fine.1).1 in
      record {
        made = slot_made l m p slot h.slots is.0;
        one = one_long shape (slot_of m (party_of p) slot) is.1 (slot_shaped l m p slot h.slots is.0);
        few = omega (arith, h.few);
      }
