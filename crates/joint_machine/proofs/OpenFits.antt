-- The open values fit their layout: registers have their lengths and slots their shapes.
use Rattle.std.proofs.Common.{◌≡◌, ℕ, suc, ◌*◌, ◌<◌, ◌^◌, Bool, true, false, List, [], ◌∷◌, ◌++◌, length, map, refl, sym, subst, ◌∙◌, arith}
use Rattle.std.proofs.lemmas.List.{length-map}
use Rattle.std.specs.Prelude.{IsTrue, ◌==◌, ◌&&◌, not, nat_lt, nat_le, slice_index, if◌then◌else◌, bit_and}
use Rattle.std.specs.List.{AllZip, AllByRecursion, list_all, flat_map}
use Rattle.lanes.specs.declared.party.Party.{Party}
use Rattle.lanes.specs.declared.party.Party.TheVariants.{First, Second, Third}
use Rattle.lanes.specs.declared.three.Three.{Three}
use Rattle.lanes.specs.Three.{at, put}
use Rattle.lanes.specs.Word.{AreWords}
use Rattle.lanes.specs.Lanes.{ands}
use Rattle.lanes.specs.Shifts.{shifted_left, shifted_right, spread_word}
use Rattle.tapes.specs.Order.{applied, IsOrder}
use Rattle.step_lists.specs.declared.step.Shape.{Shape}
use Rattle.step_lists.specs.declared.step.Shape.TheVariants as shapes
use Rattle.step_lists.specs.declared.step.Step.{Step}
use Rattle.step_lists.specs.declared.step.Step.TheVariants.{Const, Lin, And, Share, Reveal, Steer, Tell, Work, Flag}
use Rattle.step_lists.specs.declared.step.LinOp.{LinOp}
use Rattle.step_lists.specs.declared.step.LinOp.TheVariants.{Xor, Not, Left, Right, Mask, Spread, Gather}
use Rattle.step_lists.specs.Layout.{Layout, party_of, grown, length_of, shape_of, count_in, rows_moved, lin_length, with_lengths, with_shapes}
use Rattle.step_lists.specs.Rules.{is_register, is_slot, is_party, is_order_of, is_empty, move_together, fits_lin, fits_layout, words_of_all}
use Rattle.step_lists.specs.Shapes.{HasLength, HasShape, HaveShapes, IsLawful}
use Rattle.step_lists.specs.Draws.{ThreeTapes, order_in}
use Rattle.step_lists.specs.Lin.{lin}
use Rattle.step_lists.specs.Open.{SlotWords, Open, item, register, slot, with_registers, with_slots, more_slots, turned, open_step}
use Rattle.joint_machine.proofs.Facts.{Facts}
use Rattle.joint_machine.proofs.Listing.{true_apart, both, below, equal, all_hold, zip_at, zip_append, zip_maps, item_has, all_at, mapped_all}
use Rattle.joint_machine.proofs.Drawn.{AreDrawsOf, RevealDraws, reveal_draws}

pub record OpenFits (l : Layout) (o : Open) : Type 0 where
  pub registers : AllZip HasLength l.registers o.registers
  pub slots : (p : Party) → HaveShapes (at p l.slots) (at p o.slots)

-- registers and slots by number
pub register_fits : (l : Layout) (o : Open) (r : ℕ) → OpenFits l o → IsTrue (is_register l r) → HasLength (length_of l r) (register o r)
register_fits l o r h i = zip_at HasLength l.registers o.registers r 0 [] h.registers (below r (length l.registers) i)

pub slot_fits : (l : Layout) (o : Open) (p s : ℕ) → OpenFits l o → IsTrue (is_slot l p s) → HasShape (shape_of l (party_of p) s) (slot o (party_of p) s)
slot_fits l o p s h i =
    zip_at HasShape (at (party_of p) l.slots) (at (party_of p) o.slots) s (shapes.Words 0) [] (h.slots (party_of p))
    (below s (length (at (party_of p) l.slots)) (both (is_party p) (nat_lt s (length (at (party_of p) l.slots))) i).1)

pub shaped_words : (shape : Shape) (xs : List ℕ) → HasShape shape xs → HasLength (count_in shape) xs
shaped_words (shapes.Words n) xs h = h
shaped_words (shapes.OrderOf n) xs h = h.0

-- more of them
pub more_registers : (l : Layout) (o : Open) (ns : List ℕ) (xs : List (List ℕ)) → OpenFits l o → AllZip HasLength ns xs → OpenFits (with_lengths l ns) (with_registers o xs)
more_registers l o ns xs h i = record { registers = zip_append HasLength l.registers ns o.registers xs h.registers i; slots = h.slots }

put_slots : (p q : Party) (ls : Three (List Shape)) (ss : SlotWords) (more : List Shape) (xs : List (List ℕ))
    → ((q : Party) → HaveShapes (at q ls) (at q ss)) → HaveShapes more xs → HaveShapes (at q (put p (at p ls ++ more) ls)) (at q (more_slots p xs ss))
put_slots First First ls ss more xs h i = zip_append HasShape ls.first more ss.first xs (h First) i
put_slots First Second ls ss more xs h i = h Second
put_slots First Third ls ss more xs h i = h Third
put_slots Second First ls ss more xs h i = h First
put_slots Second Second ls ss more xs h i = zip_append HasShape ls.second more ss.second xs (h Second) i
put_slots Second Third ls ss more xs h i = h Third
put_slots Third First ls ss more xs h i = h First
put_slots Third Second ls ss more xs h i = h Second
put_slots Third Third ls ss more xs h i = zip_append HasShape ls.third more ss.third xs (h Third) i

pub slots_more : (l : Layout) (o : Open) (p : Party) (more : List Shape) (xs : List (List ℕ)) → OpenFits l o → HaveShapes more xs
    → OpenFits (with_shapes l p more) (with_slots o p xs)
slots_more l o p more xs h i = record { registers = h.registers; slots = λ q. put_slots p q l.slots o.slots more xs h.slots i }

-- ---- lengths of what an operation makes

-- registers that were made have the lengths of the layout
abbrev pub AreLaid : Layout → (ℕ → List ℕ) → Type 0
AreLaid l f = (r : ℕ) → IsTrue (is_register l r) → length (f r) ≡ length_of l r

pub lin_long : Facts → (l : Layout) (op : LinOp) (f : ℕ → List ℕ) → AreLaid l f → IsTrue (fits_lin l op) → length (lin op f) ≡ lin_length l op
lin_long facts l (Xor a b) f h i =
    let one = both (is_register l a && is_register l b) (length_of l a == length_of l b) i in
    let two = both (is_register l a) (is_register l b) one.0 in
    let e = equal (length_of l a) (length_of l b) one.1 in
    let ea = h a two.0 in
    let eb = h b two.1 in
    omega (arith, facts.lengths.xor (f a) (f b))
lin_long facts l (Not a) f h i = facts.lengths.each _ (f a) ∙ h a i
lin_long facts l (Left a by) f h i = facts.lengths.each (shifted_left by) (f a) ∙ h a (both (is_register l a) (nat_le by 63) i).0
lin_long facts l (Right a by) f h i = facts.lengths.each (shifted_right by) (f a) ∙ h a (both (is_register l a) (nat_le by 63) i).0
lin_long facts l (Mask a word) f h i = facts.lengths.each (λ x. bit_and x word) (f a) ∙ h a i
lin_long facts l (Spread a) f h i = facts.lengths.each spread_word (f a) ∙ h a i
lin_long facts l (Gather sources places) f h i = facts.lengths.pick places (flat_map f sources)

-- ---- words below 2 ^ 64

pub words_all : (words : List ℕ) → IsTrue (list_all (λ w. nat_lt w (2 ^ 64)) words) → AreWords words
words_all words h = record { below = λ k. below (slice_index words k) (2 ^ 64) (item_has (λ w. IsTrue (nat_lt w (2 ^ 64))) words k 0 (all_hold (λ w. nat_lt w (2 ^ 64)) words h) refl) }

no_words_below : AreWords []
no_words_below = record { below = λ k. omega arith }

flat_words : Facts → (f : ℕ → List ℕ) (l : Layout) (rs : List ℕ) → ((r : ℕ) → IsTrue (is_register l r) → AreWords (f r))
    → AllByRecursion (λ r. IsTrue (is_register l r)) rs → AreWords (flat_map f rs)
flat_words facts f l [] h i = no_words_below
flat_words facts f l (r ∷ rs) h i = facts.behind.appended (f r) (flat_map f rs) (h r i.0) (flat_words facts f l rs h i.1)

pub lin_words : Facts → (l : Layout) (op : LinOp) (f : ℕ → List ℕ) → ((r : ℕ) → IsTrue (is_register l r) → AreWords (f r)) → IsTrue (fits_lin l op) → AreWords (lin op f)
lin_words facts l (Xor a b) f h i =
    let one = both (is_register l a && is_register l b) (length_of l a == length_of l b) i in
    let two = both (is_register l a) (is_register l b) one.0 in
    facts.stay.xor (f a) (f b) (h a two.0) (h b two.1)
lin_words facts l (Not a) f h i = facts.stay.not (f a) (h a i)
lin_words facts l (Left a by) f h i = facts.stay.left by (f a)
lin_words facts l (Right a by) f h i = facts.stay.right by (f a) (h a (both (is_register l a) (nat_le by 63) i).0)
lin_words facts l (Mask a word) f h i = facts.stay.mask word (f a) (h a i)
lin_words facts l (Spread a) f h i = facts.stay.spread (f a)
lin_words facts l (Gather sources places) f h i =
    let one = both (list_all (is_register l) sources && list_all (λ p. nat_lt p (words_of_all l sources)) places) (nat_lt (length places) (2 ^ 32)) i in
    let two = both (list_all (is_register l) sources) (list_all (λ p. nat_lt p (words_of_all l sources)) places) one.0 in
    facts.stay.pick places (flat_map f sources) (flat_words facts f l sources h (all_hold (is_register l) sources two.0))

-- ---- registers that are moved together

pub record IsMoved (l : Layout) (n r : ℕ) : Type 0 where
  pub made : IsTrue (is_register l r)
  pub long : length_of l r ≡ n

all_moved : (l : Layout) (n : ℕ) (rs : List ℕ) → IsTrue (list_all (λ r. is_register l r && (length_of l r == n)) rs) → AllByRecursion (IsMoved l n) rs
all_moved l n [] h = tt
all_moved l n (r ∷ rs) h =
    let p = both (is_register l r && (length_of l r == n)) (list_all (λ r. is_register l r && (length_of l r == n)) rs) h in
    let q = both (is_register l r) (length_of l r == n) p.0 in
    (record { made = q.0; long = equal (length_of l r) n q.1 }, all_moved l n rs p.1)

pub moved_together : (l : Layout) (moved : List ℕ) → IsTrue (move_together l moved) → AllByRecursion (IsMoved l (rows_moved l moved)) moved
moved_together l moved h =
    all_moved l (rows_moved l moved) moved (both (not (is_empty moved)) (list_all (λ r. is_register l r && (length_of l r == rows_moved l moved)) moved) h).1

-- an order of n applied to words gives n of them
applied_fits : Facts → (n : ℕ) (o xs : List ℕ) → length o ≡ n → AreWords xs → HasLength n (applied o xs)
applied_fits facts n o xs e h = record { long = facts.lengths.pick o xs ∙ e; below = facts.stay.pick o xs h }

pub order_shape : (n : ℕ) (shape : Shape) (xs : List ℕ) → IsTrue (is_order_of n shape) → HasShape shape xs → HasShape (shapes.OrderOf n) xs
order_shape n (shapes.Words k) xs i h = absurd (true_apart i)
order_shape n (shapes.OrderOf k) xs i h = subst (λ n. HasLength n xs × IsOrder xs) (equal k n i) h

-- ---- a step

turned_fits : Facts → (m n : ℕ) (ds : ThreeTapes) (xs : List ℕ) → RevealDraws m n ds → AreWords xs → HasLength n (turned ds xs)
turned_fits facts m n ds xs h i =
    let one = order_in ds.first in
    let two = order_in ds.second in
    applied_fits facts n (order_in ds.third) (applied two (applied one xs)) (h.orders Third).long
    (facts.stay.pick two (applied one xs) (facts.stay.pick one xs i))

shown_fits : (n m : ℕ) (xs : List (List ℕ)) (shown : List ℕ) → AllByRecursion (HasLength n) xs → length xs ≡ m → IsTrue (list_all (λ k. nat_lt k m) shown)
    → HaveShapes (map (λ k. shapes.Words n) shown) (map (λ k. item xs k) shown)
shown_fits n m xs [] h e i = tt
shown_fits n m xs (k ∷ shown) h e i =
    let p = both (nat_lt k m) (list_all (λ k. nat_lt k m) shown) i in
    let lt : k < m = below k m p.0 in
    (all_at (HasLength n) xs k [] h (omega arith), shown_fits n m xs shown h e p.1)

flag_fits : (l : Layout) (o : Open) (flags : ℕ) (b : Bool) → OpenFits l o
    → OpenFits (record l { flags = flags }) (if b then record o { flags = suc o.flags } else record o { stop = true })
flag_fits l o flags true h = record { registers = h.registers; slots = h.slots }
flag_fits l o flags false h = record { registers = h.registers; slots = h.slots }

module _ {T : Type 0} (accepts : T → List Shape → List Shape → Bool) (answer : T → List (List ℕ) → List (List ℕ)) where
  const_fits : (l : Layout) (o : Open) (words : List ℕ) (ds : ThreeTapes) → IsTrue (fits_layout {T = T} accepts l (Const words)) → OpenFits l o
      → OpenFits (grown {T = T} l (Const words)) (open_step answer o (Const words) ds)
  const_fits l o words ds i h =
      let p = both (list_all (λ w. nat_lt w (2 ^ 64)) words) (nat_lt (length words) (2 ^ 32)) i in
      more_registers l o (length words ∷ []) (words ∷ []) h (record { long = refl; below = words_all words p.0 }, tt)

  lin_fits : Facts → (l : Layout) (o : Open) (op : LinOp) (ds : ThreeTapes) → IsTrue (fits_lin l op) → OpenFits l o
      → OpenFits (grown {T = T} l (Lin op)) (open_step answer o (Lin op) ds)
  lin_fits facts l o op ds i h =
      more_registers l o (lin_length l op ∷ []) (lin op (register o) ∷ []) h (
        record {
          long = lin_long facts l op (register o) (λ r j. (register_fits l o r h j).long) i;
          below = lin_words facts l op (register o) (λ r j. (register_fits l o r h j).below) i;
        },
        tt,
      )

  and_fits : Facts → (l : Layout) (o : Open) (left right : ℕ) (ds : ThreeTapes) → IsTrue (fits_layout {T = T} accepts l (And left right)) → OpenFits l o
      → OpenFits (grown {T = T} l (And left right)) (open_step answer o (And left right) ds)
  and_fits facts l o left right ds i h =
      let one = both (is_register l left && is_register l right) (length_of l left == length_of l right) i in
      let two = both (is_register l left) (is_register l right) one.0 in
      let e = equal (length_of l left) (length_of l right) one.1 in
      let a = register_fits l o left h two.0 in
      let b = register_fits l o right h two.1 in
      more_registers l o (length_of l left ∷ []) (ands (register o left) (register o right) ∷ []) h (
        record {
          long = omega (arith, facts.lengths.and (register o left) (register o right));
          below = facts.stay.and (register o left) (register o right) a.below;
        },
        tt,
      )

  share_fits : (l : Layout) (o : Open) (p s : ℕ) (ds : ThreeTapes) → IsTrue (fits_layout {T = T} accepts l (Share p s)) → OpenFits l o
      → OpenFits (grown {T = T} l (Share p s)) (open_step answer o (Share p s) ds)
  share_fits l o p s ds i h =
      let here = slot_fits l o p s h (both (is_slot l p s) _ i).0 in
      more_registers l o (count_in (shape_of l (party_of p) s) ∷ []) (slot o (party_of p) s ∷ []) h
      (shaped_words (shape_of l (party_of p) s) (slot o (party_of p) s) here, tt)

  reveal_fits : Facts → (l : Layout) (o : Open) (to : ℕ) (moved shown : List ℕ) (ds : ThreeTapes) → IsTrue (fits_layout {T = T} accepts l (Reveal to moved shown))
      → AreDrawsOf {T = T} l (Reveal to moved shown) ds → OpenFits l o → OpenFits (grown {T = T} l (Reveal to moved shown)) (open_step answer o (Reveal to moved shown) ds)
  reveal_fits facts l o to moved shown ds i drawn h =
      let n = rows_moved l moved in
      let shows = list_all (λ k. nat_lt k (length moved)) shown in
      let one = both ((is_party to && move_together l moved) && not (is_empty shown)) shows i in
      let two = both (is_party to && move_together l moved) (not (is_empty shown)) one.0 in
      let three = both (is_party to) (move_together l moved) two.0 in
      let are = moved_together l moved three.1 in
      let draws = reveal_draws (length moved) n ds drawn in
      let new = map (λ r. turned ds (register o r)) moved in
      let fit = λ (r : ℕ) (m : IsMoved l n r). turned_fits facts (length moved * n) n ds (register o r) draws (register_fits l o r h m.made).below in
      let laid = λ (r : ℕ) (m : IsMoved l n r). subst (λ k. HasLength k (turned ds (register o r))) (sym m.long) (fit r m) in
      slots_more (with_lengths l (map (length_of l) moved)) (with_registers o new) (party_of to)
      (map (λ k. shapes.Words n) shown) (map (λ k. item new k) shown)
      (more_registers l o (map (length_of l) moved) new h (zip_maps HasLength (length_of l) (λ r. turned ds (register o r)) (IsMoved l n) laid moved are))
      (shown_fits n (length moved) new shown (mapped_all (IsMoved l n) (HasLength n) (λ r. turned ds (register o r)) fit moved are)
      (length-map moved (λ r. turned ds (register o r))) one.1)

  steer_fits : Facts → (l : Layout) (o : Open) (by s : ℕ) (moved : List ℕ) (ds : ThreeTapes) → IsTrue (fits_layout {T = T} accepts l (Steer by s moved))
      → OpenFits l o → OpenFits (grown {T = T} l (Steer by s moved)) (open_step answer o (Steer by s moved) ds)
  steer_fits facts l o by s moved ds i h =
      let n = rows_moved l moved in
      let shape = shape_of l (party_of by) s in
      let g = slot o (party_of by) s in
      let one = both (is_slot l by s && move_together l moved) (is_order_of n shape) i in
      let two = both (is_slot l by s) (move_together l moved) one.0 in
      let order = order_shape n shape g one.1 (slot_fits l o by s h two.0) in
      let laid = λ (r : ℕ) (m : IsMoved l n r).
      subst (λ k. HasLength k (applied g (register o r))) (sym m.long) (applied_fits facts n g (register o r) order.0.long (register_fits l o r h m.made).below) in
      more_registers l o (map (length_of l) moved) (map (λ r. applied g (register o r)) moved) h
      (zip_maps HasLength (length_of l) (λ r. applied g (register o r)) (IsMoved l n) laid moved (moved_together l moved two.1))

  tell_fits : (l : Layout) (o : Open) (source target s : ℕ) (ds : ThreeTapes) → IsTrue (fits_layout {T = T} accepts l (Tell source target s)) → OpenFits l o
      → OpenFits (grown {T = T} l (Tell source target s)) (open_step answer o (Tell source target s) ds)
  tell_fits l o source target s ds i h =
      let one = both ((is_slot l source s && is_party target) && not (source == target)) _ i in
      let two = both (is_slot l source s && is_party target) (not (source == target)) one.0 in
      let three = both (is_slot l source s) (is_party target) two.0 in
      slots_more l o (party_of target) (shape_of l (party_of source) s ∷ []) (slot o (party_of source) s ∷ []) h (slot_fits l o source s h three.0, tt)

  work_fits : IsLawful accepts answer → (l : Layout) (o : Open) (p : ℕ) (task : T) (takes : List ℕ) (gives : List Shape) (ds : ThreeTapes)
      → IsTrue (fits_layout accepts l (Work p task takes gives)) → OpenFits l o
      → OpenFits (grown l (Work p task takes gives)) (open_step answer o (Work p task takes gives) ds)
  work_fits law l o p task takes gives ds i h =
      let accepted = accepts task (map (shape_of l (party_of p)) takes) gives in
      let one = both (is_party p && list_all (is_slot l p) takes) accepted i in
      let two = both (is_party p) (list_all (is_slot l p) takes) one.0 in
      let taken = zip_maps HasShape (shape_of l (party_of p)) (slot o (party_of p)) (λ s. IsTrue (is_slot l p s)) (λ s j. slot_fits l o p s h j) takes
      (all_hold (is_slot l p) takes two.1) in
      slots_more l o (party_of p) gives (answer task (map (slot o (party_of p)) takes)) h
      (law task (map (shape_of l (party_of p)) takes) gives (map (slot o (party_of p)) takes) one.1 taken)

  pub step_fits : Facts → IsLawful accepts answer → (l : Layout) (o : Open) (s : Step T) (ds : ThreeTapes) → IsTrue (fits_layout accepts l s)
      → AreDrawsOf l s ds → OpenFits l o → OpenFits (grown l s) (open_step answer o s ds)
  step_fits facts law l o (Const words) ds i drawn h = const_fits l o words ds i h
  step_fits facts law l o (Lin op) ds i drawn h = lin_fits facts l o op ds i h
  step_fits facts law l o (And left right) ds i drawn h = and_fits facts l o left right ds i h
  step_fits facts law l o (Share p s) ds i drawn h = share_fits l o p s ds i h
  step_fits facts law l o (Reveal to moved shown) ds i drawn h = reveal_fits facts l o to moved shown ds i drawn h
  step_fits facts law l o (Steer by s moved) ds i drawn h = steer_fits facts l o by s moved ds i h
  step_fits facts law l o (Tell source target s) ds i drawn h = tell_fits l o source target s ds i h
  step_fits facts law l o (Work p task takes gives) ds i drawn h = work_fits law l o p task takes gives ds i h
  step_fits facts law l o (Flag p s) ds i drawn h = flag_fits l o (suc l.flags) (slice_index (slot o (party_of p) s) 0 == 0) h
