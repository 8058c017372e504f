-- What a machine has that is ready for a step.
use Rattle.std.proofs.Common.{◌≡◌, ℕ, zero, suc, ◌<◌, ◌≤◌, ◌^◌, List, [], ◌∷◌, length, map, refl, sym, subst, ◌∙◌, ap, arith}
use Rattle.std.specs.Prelude.{IsTrue, ◌==◌, ◌&&◌, not, nat_lt, nat_le, slice_index}
use Rattle.std.specs.List.{AllZip, AllByRecursion, list_all, flat_map}
use Rattle.std.proofs.lemmas.Bool.{leb-true}
use Rattle.std.proofs.lemmas.List.{length-append}
use Rattle.lanes.specs.declared.party.Party.{Party}
use Rattle.lanes.specs.declared.party.Party.TheVariants.{First, Second, Third}
use Rattle.lanes.specs.Three.{at}
use Rattle.step_lists.specs.declared.step.Shape.TheVariants as shapes
use Rattle.step_lists.specs.declared.step.LinOp.{LinOp}
use Rattle.step_lists.specs.declared.step.LinOp.TheVariants.{Xor, Not, Left, Right, Mask, Spread, Gather}
use Rattle.step_lists.specs.Layout.{Layout, party_of, length_of, shape_of, rows_moved}
use Rattle.step_lists.specs.Rules.{is_register, is_slot, is_party, is_empty, move_together, fits_lin, words_of_all}
use Rattle.step_lists.specs.Shapes.{HasShape, HaveShapes}
use Rattle.step_lists.specs.Draws.{nothing}
use Rattle.step_lists.specs.Machine.{Machine, shares, slot_of}
use Rattle.joint_machine.specs.Opens.{IsLong}
use Rattle.joint_machine.specs.Ready.{HasRows, HaveRows, IsMade, IsReadyLin}
use Rattle.joint_machine.specs.Steps.{rows_of_all}
use Rattle.joint_machine.proofs.Listing.{true_apart, both, below, equal, all_hold, zip_at, all_at}
use Rattle.joint_machine.proofs.OpenFits.{IsMoved, moved_together}

zip_count : {A B : Type 0} (R : A → B → Type 0) (xs : List A) (ys : List B) → AllZip R xs ys → length xs ≡ length ys
zip_count R [] [] h = refl
zip_count R [] (y ∷ ys) h = absurd h
zip_count R (x ∷ xs) [] h = absurd h
zip_count R (x ∷ xs) (y ∷ ys) h = ap suc (zip_count R xs ys h.1)

-- ---- registers

abbrev pub AreLong : Layout → Machine → Type 0
AreLong l m = AllZip IsLong l.registers m.registers

pub is_made : (l : Layout) (m : Machine) (r : ℕ) → AreLong l m → IsTrue (is_register l r) → IsMade m r
is_made l m r h i =
    let e = zip_count IsLong l.registers m.registers h in
    let lt = below r (length l.registers) i in
    omega arith

pub is_long : (l : Layout) (m : Machine) (r : ℕ) → AreLong l m → IsTrue (is_register l r) → IsLong (length_of l r) (shares m r)
is_long l m r h i = zip_at IsLong l.registers m.registers r 0 nothing h (below r (length l.registers) i)

pub has_rows : (l : Layout) (m : Machine) (r : ℕ) → AreLong l m → IsTrue (is_register l r) → HasRows (length_of l r) (shares m r)
has_rows l m r h i =
    let s = is_long l m r h i in
    record { first = s.each First; second = s.each Second; third = s.each Third }

-- ---- slots

abbrev pub AreShaped : Layout → Machine → Type 0
AreShaped l m = (p : Party) → HaveShapes (at p l.slots) (at p m.slots)

slot_below : (l : Layout) (p s : ℕ) → IsTrue (is_slot l p s) → s < length (at (party_of p) l.slots)
slot_below l p s i =
    below s (length (at (party_of p) l.slots)) (both (is_party p) (nat_lt s (length (at (party_of p) l.slots))) i).1

pub slot_made : (l : Layout) (m : Machine) (p s : ℕ) → AreShaped l m → IsTrue (is_slot l p s) → s < length (at (party_of p) m.slots)
slot_made l m p s h i =
    let e = zip_count HasShape (at (party_of p) l.slots) (at (party_of p) m.slots) (h (party_of p)) in
    let lt = slot_below l p s i in
    omega arith

pub slot_shaped : (l : Layout) (m : Machine) (p s : ℕ) → AreShaped l m → IsTrue (is_slot l p s) → HasShape (shape_of l (party_of p) s) (slot_of m (party_of p) s)
slot_shaped l m p s h i =
    zip_at HasShape (at (party_of p) l.slots) (at (party_of p) m.slots) s (shapes.Words 0) [] (h (party_of p)) (slot_below l p s i)

-- ---- registers that are moved together

pub record IsReadyMoved (l : Layout) (m : Machine) (moved : List ℕ) : Type 0 where
  pub some : 0 < length moved
  pub made : (k : ℕ) → k < length moved → IsMade m (slice_index moved k)
  pub same : rows_of_all m moved ≡ rows_moved l moved
  pub rows : HaveRows (rows_of_all m moved) (map (shares m) moved)

rows_all : (l : Layout) (m : Machine) (n : ℕ) (moved : List ℕ) → AreLong l m → AllByRecursion (IsMoved l n) moved → HaveRows n (map (shares m) moved)
rows_all l m n [] h i k lt = absurd (omega arith)
rows_all l m n (r ∷ rs) h i zero lt = subst (λ n. HasRows n (shares m r)) i.0.long (has_rows l m r h i.0.made)
rows_all l m n (r ∷ rs) h i (suc k) lt = rows_all l m n rs h i.1 k (omega arith)

first_rows : (l : Layout) (m : Machine) (moved : List ℕ) → AreLong l m → IsTrue (not (is_empty moved)) → AllByRecursion (IsMoved l (rows_moved l moved)) moved
    → rows_of_all m moved ≡ rows_moved l moved
first_rows l m [] h e i = absurd (true_apart e)
first_rows l m (r ∷ rs) h e i = (has_rows l m r h i.0.made).first

some_moved : (moved : List ℕ) → IsTrue (not (is_empty moved)) → 0 < length moved
some_moved [] e = absurd (true_apart e)
some_moved (r ∷ rs) e = omega arith

pub ready_moved : (l : Layout) (m : Machine) (moved : List ℕ) → AreLong l m → IsTrue (move_together l moved) → IsReadyMoved l m moved
ready_moved l m moved h i =
    let n = rows_moved l moved in
    let are = moved_together l moved i in
    let some = (both (not (is_empty moved)) (list_all (λ r. is_register l r && (length_of l r == n)) moved) i).0 in
    let same = first_rows l m moved h some are in
    record {
      some = some_moved moved some;
      made = λ k lt. is_made l m (slice_index moved k) h (all_at (IsMoved l n) moved k 0 are lt).made;
      same = same;
      rows = subst (λ n. HaveRows n (map (shares m) moved)) (sym same) (rows_all l m n moved h are);
    }

pub all_below : (n : ℕ) (ks : List ℕ) → IsTrue (list_all (λ k. nat_lt k n) ks) → (k : ℕ) → k < length ks → slice_index ks k < n
all_below n ks h k lt = below (slice_index ks k) n (all_at (λ k. IsTrue (nat_lt k n)) ks k 0 (all_hold (λ k. nat_lt k n) ks h) lt)

-- ---- operations

at_most : (a b : ℕ) → IsTrue (nat_le a b) → a ≤ b
at_most a b h = leb-true a b h

flat_long : (l : Layout) (m : Machine) (p : Party) (rs : List ℕ) → AreLong l m → AllByRecursion (λ r. IsTrue (is_register l r)) rs
    → length (flat_map (λ r. at p (shares m r)) rs) ≡ words_of_all l rs
flat_long l m p [] h i = refl
flat_long l m p (r ∷ rs) h i =
    let one = (is_long l m r h i.0).each p in
    let more = flat_long l m p rs h i.1 in
    omega (arith, length-append (at p (shares m r)) (flat_map (λ r. at p (shares m r)) rs))

pub ready_lin : (l : Layout) (m : Machine) (p : Party) (op : LinOp) → AreLong l m → IsTrue (fits_lin l op) → IsReadyLin m p op
ready_lin l m p (Xor a b) h i =
    let one = both (is_register l a && is_register l b) (length_of l a == length_of l b) i in
    let two = both (is_register l a) (is_register l b) one.0 in
    let e = equal (length_of l a) (length_of l b) one.1 in
    let ea = (is_long l m a h two.0).each p in
    let eb = (is_long l m b h two.1).each p in
    (is_made l m a h two.0, is_made l m b h two.1, ea ∙ (e ∙ sym eb))
ready_lin l m p (Not a) h i = is_made l m a h i
ready_lin l m p (Left a by) h i =
    let one = both (is_register l a) (nat_le by 63) i in
    (is_made l m a h one.0, at_most by 63 one.1)
ready_lin l m p (Right a by) h i =
    let one = both (is_register l a) (nat_le by 63) i in
    (is_made l m a h one.0, at_most by 63 one.1)
ready_lin l m p (Mask a word) h i = is_made l m a h i
ready_lin l m p (Spread a) h i = is_made l m a h i
ready_lin l m p (Gather sources places) h i =
    let one = both (list_all (is_register l) sources && list_all (λ p. nat_lt p (words_of_all l sources)) places) (nat_lt (length places) (2 ^ 32)) i in
    let two = both (list_all (is_register l) sources) (list_all (λ p. nat_lt p (words_of_all l sources)) places) one.0 in
    let are = all_hold (is_register l) sources two.0 in
    let e = flat_long l m p sources h are in (
      λ k lt. is_made l m (slice_index sources k) h (all_at (λ r. IsTrue (is_register l r)) sources k 0 are lt),
      λ k lt. subst (λ n. slice_index places k < n) (sym e) (all_below (words_of_all l sources) places two.1 k lt),
    )
