-- Registers and slots of machines that fit a layout, and more of them.
use Rattle.std.proofs.Common.{ℕ, List, [], ◌++◌, length, refl, arith}
use Rattle.std.specs.Prelude.{IsTrue, nat_lt}
use Rattle.std.specs.List.{AllZip}
use Rattle.lanes.specs.declared.party.Party.{Party}
use Rattle.lanes.specs.declared.party.Party.TheVariants.{First, Second, Third}
use Rattle.lanes.specs.declared.three.Three.{Three}
use Rattle.lanes.specs.Three.{at, put}
use Rattle.lanes.specs.Word.{AreWords}
use Rattle.step_lists.specs.declared.step.Shape.{Shape}
use Rattle.step_lists.specs.declared.step.Shape.TheVariants as shapes
use Rattle.step_lists.specs.Layout.{Layout, party_of, length_of, shape_of, count_in, with_lengths, with_shapes}
use Rattle.step_lists.specs.Rules.{is_register, is_slot, is_party}
use Rattle.step_lists.specs.Shapes.{HasLength, HasShape, HaveShapes}
use Rattle.step_lists.specs.Draws.{nothing}
use Rattle.step_lists.specs.Open.{SlotWords, more_slots}
use Rattle.step_lists.specs.Phases.{Shares}
use Rattle.step_lists.specs.Machine.{Machine, shares, slot_of, with_shares, with_more_slots}
use Rattle.twin.proofs.Lists.{both, below, zip_at, zip_any, zip_append}
use Rattle.twin.proofs.Same.{IsFull, Fitting, Held, HeldSame, SameHere}

pub none_below : AreWords []
none_below = record { below = λ k. omega arith }

-- ---- by number

pub register_full : (l : Layout) (m : Machine) (r : ℕ) → Fitting l m → IsTrue (is_register l r) → IsFull (length_of l r) (shares m r)
register_full l m r h i = zip_at IsFull l.registers m.registers r 0 nothing h.registers (below r (length l.registers) i)

pub slot_fits : (l : Layout) (m : Machine) (p s : ℕ) → Fitting l m → IsTrue (is_slot l p s) → HasShape (shape_of l (party_of p) s) (slot_of m (party_of p) s)
slot_fits l m p s h i =
    zip_at HasShape (at (party_of p) l.slots) (at (party_of p) m.slots) s (shapes.Words 0) [] (h.slots (party_of p))
    (below s (length (at (party_of p) l.slots)) (both (is_party p) (nat_lt s (length (at (party_of p) l.slots))) i).1)

pub shaped_words : (shape : Shape) (xs : List ℕ) → HasShape shape xs → HasLength (count_in shape) xs
shaped_words (shapes.Words n) xs h = h
shaped_words (shapes.OrderOf n) xs h = h.0

pub held_nothing : (v : Party) → Held v nothing nothing
held_nothing v = record { own = refl; following = refl }

pub held_at : (v : Party) (x y : Machine) (r : ℕ) → SameHere v x y → Held v (shares x r) (shares y r)
held_at v x y r h = zip_any (Held v) x.registers y.registers r nothing nothing h.registers (held_nothing v)

-- ---- more of them

pub more_registers : (l : Layout) (m : Machine) (ns : List ℕ) (ss : List Shares) → Fitting l m → AllZip IsFull ns ss → Fitting (with_lengths l ns) (with_shares m ss)
more_registers l m ns ss h i = record { registers = zip_append IsFull l.registers ns m.registers ss h.registers i; slots = h.slots }

put_slots : (p q : Party) (ls : Three (List Shape)) (ss : SlotWords) (more : List Shape) (xs : List (List ℕ))
    → ((q : Party) → HaveShapes (at q ls) (at q ss)) → HaveShapes more xs → HaveShapes (at q (put p (at p ls ++ more) ls)) (at q (more_slots p xs ss))
put_slots First First ls ss more xs h i = zip_append HasShape ls.first more ss.first xs (h First) i
put_slots First Second ls ss more xs h i = h Second
put_slots First Third ls ss more xs h i = h Third
put_slots Second First ls ss more xs h i = h First
put_slots Second Second ls ss more xs h i = zip_append HasShape ls.second more ss.second xs (h Second) i
put_slots Second Third ls ss more xs h i = h Third
put_slots Third First ls ss more xs h i = h First
put_slots Third Second ls ss more xs h i = h Second
put_slots Third Third ls ss more xs h i = zip_append HasShape ls.third more ss.third xs (h Third) i

pub slots_more : (l : Layout) (m : Machine) (p : Party) (more : List Shape) (xs : List (List ℕ)) → Fitting l m → HaveShapes more xs
    → Fitting (with_shapes l p more) (with_more_slots m p xs)
slots_more l m p more xs h i = record { registers = h.registers; slots = λ q. put_slots p q l.slots m.slots more xs h.slots i }

-- ---- more of both machines

pub same_registers : (v : Party) (x y : Machine) (ss ts : List Shares) → SameHere v x y → HeldSame v ss ts → SameHere v (with_shares x ss) (with_shares y ts)
same_registers v x y ss ts h i = record {
  registers = zip_append (Held v) x.registers ss y.registers ts h.registers i;
  slots = h.slots;
  flags = h.flags;
  stop = h.stop;
}
