-- A part that fits its layout: registers and slots by number, and more of them.
use Rattle.std.proofs.Common.{◌≡◌, ℕ, true, List, [], ◌∷◌, length, refl, sym, subst, arith}
use Rattle.std.specs.Prelude.{IsTrue, nat_lt}
use Rattle.std.specs.List.{AllZip}
use Rattle.lanes.specs.declared.party.Party.{Party}
use Rattle.lanes.specs.declared.party.Party.TheVariants.{First, Second, Third}
use Rattle.lanes.specs.declared.three.Three.{Three}
use Rattle.lanes.specs.Party.{next}
use Rattle.lanes.specs.Three.{at}
use Rattle.tapes.specs.Needs.{FitsNeeds}
use Rattle.step_lists.specs.declared.step.Shape.{Shape}
use Rattle.step_lists.specs.declared.step.Shape.TheVariants as shapes
use Rattle.step_lists.specs.declared.step.Step.{Step}
use Rattle.step_lists.specs.Layout.{Layout, party_of, length_of, shape_of, count_in, with_lengths, with_shapes}
use Rattle.step_lists.specs.Rules.{is_party, is_register, is_slot, is_words}
use Rattle.step_lists.specs.Draws.{needs_of}
use Rattle.step_lists.specs.Open.{item}
use Rattle.step_lists.specs.Seen.{same_party}
use Rattle.step_lists.specs.Shapes.{HasLength, HasShape, HaveShapes}
use Rattle.step_lists.specs.Part.{Given, Pair, Part, no_pair, pair_at, count_from, stage_takes, with_pairs, with_own_slots}
use Rattle.party_core.specs.Doing.{IsFitting, IsPairOf}
use Rattle.party_core.proofs.Fine.{both}
use Rattle.party_core.proofs.Progressing.{count_more}
use Rattle.party_core.proofs.Zipping.{below, true_apart, zip_at, zip_append}

-- what is given for a step that comes to its end
pub record IsSupplied {T : Type 0} (v : Party) (l : Layout) (s : Step T) (g : Given) : Type 0 where
  pub own : FitsNeeds (at v (needs_of l s)) g.own
  pub following : FitsNeeds (at (next v) (needs_of l s)) g.following
  pub received : (p : Party) → HasLength (count_from p (stage_takes v l s)) (at p g.received)

-- of one stage
pub count_one : (p : Party) (t : Three ℕ) → count_from p (t ∷ []) ≡ at p t
count_one p t = let e = count_more p t [] in omega (arith, e)

pub sized : (m n : ℕ) (xs : List ℕ) → m ≡ n → HasLength m xs → HasLength n xs
sized m n xs e h = subst (λ n. HasLength n xs) e h

pub pair_fits : (v : Party) (l : Layout) (a : Part) (r : ℕ) → IsFitting v l a → IsTrue (is_register l r) → IsPairOf (length_of l r) (pair_at a r)
pair_fits v l a r h i = zip_at IsPairOf l.registers a.pairs r 0 no_pair h.pairs (below r (length l.registers) i)

pub slot_fits : (v : Party) (l : Layout) (a : Part) (p s : ℕ) → party_of p ≡ v → IsFitting v l a → IsTrue (is_slot l p s) → HasShape (shape_of l (party_of p) s) (item a.slots s)
slot_fits v l a p s e h i =
    zip_at HasShape (at (party_of p) l.slots) a.slots s (shapes.Words 0) [] (subst (λ q. HaveShapes (at q l.slots) a.slots) (sym e) h.slots)
    (below s (length (at (party_of p) l.slots)) (both (is_party p) (nat_lt s (length (at (party_of p) l.slots))) i).1)

-- words have a shape of words
pub words_shaped : (shape : Shape) (xs : List ℕ) → IsTrue (is_words shape) → HasLength (count_in shape) xs → HasShape shape xs
words_shaped (shapes.Words n) xs i h = h
words_shaped (shapes.OrderOf n) xs i h = absurd (true_apart i)

pub pairs_more : (v : Party) (l : Layout) (a : Part) (ns : List ℕ) (ps : List Pair) → IsFitting v l a → AllZip IsPairOf ns ps → IsFitting v (with_lengths l ns) (with_pairs a ps)
pairs_more v l a ns ps h i = record { pairs = zip_append IsPairOf l.registers ns a.pairs ps h.pairs i; slots = h.slots; few = h.few }

pub slots_more : (v q : Party) (l : Layout) (a : Part) (more : List Shape) (xs : List (List ℕ)) → IsFitting v l a → (same_party v q ≡ true → HaveShapes more xs)
    → IsFitting v (with_shapes l q more) (with_own_slots (same_party v q) a xs)
slots_more First First l a more xs h i = record { pairs = h.pairs; slots = zip_append HasShape l.slots.first more a.slots xs h.slots (i refl); few = h.few }
slots_more Second Second l a more xs h i = record { pairs = h.pairs; slots = zip_append HasShape l.slots.second more a.slots xs h.slots (i refl); few = h.few }
slots_more Third Third l a more xs h i = record { pairs = h.pairs; slots = zip_append HasShape l.slots.third more a.slots xs h.slots (i refl); few = h.few }
slots_more First Second l a more xs h i = record { pairs = h.pairs; slots = h.slots; few = h.few }
slots_more First Third l a more xs h i = record { pairs = h.pairs; slots = h.slots; few = h.few }
slots_more Second First l a more xs h i = record { pairs = h.pairs; slots = h.slots; few = h.few }
slots_more Second Third l a more xs h i = record { pairs = h.pairs; slots = h.slots; few = h.few }
slots_more Third First l a more xs h i = record { pairs = h.pairs; slots = h.slots; few = h.few }
slots_more Third Second l a more xs h i = record { pairs = h.pairs; slots = h.slots; few = h.few }
