-- A Steer keeps a machine fitting, and the twin's draws are what it needs.
use Rattle.std.proofs.Common.{ℕ, Bool, true, false, List, [], ◌∷◌, length, map, refl, sym, subst, ◌∙◌}
use Rattle.std.specs.Prelude.{IsTrue, ◌&&◌, if◌then◌else◌}
use Rattle.std.specs.List.{AllByRecursion}
use Rattle.std.proofs.lemmas.List.{length-map}
use Rattle.lanes.specs.declared.party.Party.{Party}
use Rattle.lanes.specs.Party.{next, before}
use Rattle.lanes.specs.Three.{at}
use Rattle.tapes.specs.declared.draw.Need.TheVariants.{OrderOf}
use Rattle.tapes.specs.declared.draw.Draw.TheVariants.{Order}
use Rattle.tapes.specs.Needs.{Meets}
use Rattle.tapes.specs.Order.{composed, inverse_of}
use Rattle.step_lists.specs.declared.step.Shape.{Shape}
use Rattle.step_lists.specs.declared.step.Shape.TheVariants as shapes
use Rattle.step_lists.specs.declared.step.Step.TheVariants.{Steer}
use Rattle.step_lists.specs.Layout.{Layout, party_of, length_of, shape_of, rows_moved}
use Rattle.step_lists.specs.Rules.{is_slot, is_order_of, move_together, fits_layout}
use Rattle.step_lists.specs.Shapes.{HasShape}
use Rattle.step_lists.specs.Seen.{same_party}
use Rattle.step_lists.specs.Draws.{order_in, needs_steer}
use Rattle.step_lists.specs.Machine.{Machine, shares, slot_of, moving, private_phase}
use Rattle.step_lists.specs.Twin.{Both, begin_both, drawn_both, steer_both, steered_order}
use Rattle.twin.proofs.Facts.{Facts}
use Rattle.twin.proofs.Lists.{true_apart, both, equal}
use Rattle.twin.proofs.Masks.{changed_fits}
use Rattle.twin.proofs.Fitted.{none_below, slot_fits, more_registers}
use Rattle.twin.proofs.Same.{Fitting}
use Rattle.twin.proofs.Steps.{Fits, Meets as MeetsNeeds}
use Rattle.twin.proofs.Orders.{HasItems, steered_has}
use Rattle.twin.proofs.PhasesDrawn.{items_of, steer_drawn, steer_order_needed, suits_all}
use Rattle.twin.proofs.PhasesFull.{full_of, BothBelow, both_below}
use Rattle.twin.proofs.PhasesMade.{IsMoved, moved_together, moving_below, steer_made, steer_below}
use Rattle.twin.proofs.RevealsFit.{IsShort, short_items, short_of, full_zip}

-- ---- what the rules say of a Steer

pub record IsSteerable (l : Layout) (by s : ℕ) (moved : List ℕ) : Type 0 where
  pub together : AllByRecursion (IsMoved l (rows_moved l moved)) moved
  pub slot : IsTrue (is_slot l by s)
  pub shape : IsTrue (is_order_of (rows_moved l moved) (shape_of l (party_of by) s))

order_shape : (n : ℕ) (shape : Shape) (xs : List ℕ) → IsTrue (is_order_of n shape) → HasShape shape xs → HasItems n xs
order_shape n (shapes.Words k) xs i h = absurd (true_apart i)
order_shape n (shapes.OrderOf k) xs i h = record { order = h.1; long = h.0.long ∙ equal k n i }

-- the private order
pub private_has : (l : Layout) (m : Machine) (by s : ℕ) (moved : List ℕ) → Fitting l m → IsSteerable l by s moved → HasItems (rows_moved l moved) (slot_of m (party_of by) s)
private_has l m by s moved h i =
    order_shape (rows_moved l moved) (shape_of l (party_of by) s) (slot_of m (party_of by) s) i.shape (slot_fits l m by s h i.slot)

module _ {T : Type 0} (accepts : T → List Shape → List Shape → Bool) where
  pub steer_allowed : (l : Layout) (by s : ℕ) (moved : List ℕ) → IsTrue (fits_layout {T = T} accepts l (Steer by s moved)) → IsSteerable l by s moved
  steer_allowed l by s moved h =
      let one = both (is_slot l by s && move_together l moved) (is_order_of (rows_moved l moved) (shape_of l (party_of by) s)) h in
      let two = both (is_slot l by s) (move_together l moved) one.0 in
      record { together = moved_together l moved two.1; slot = two.0; shape = one.1 }

-- ---- the order that the twin draws

abbrev pub twin_steers : Party → Party → List ℕ → List ℕ → List ℕ → List ℕ
twin_steers v p t g h = if same_party p (next v) then steered_order t g h else t

pub twin_steers_short : Facts → (v p : Party) (n : ℕ) (t g h : List ℕ) → IsShort n t → HasItems n t → HasItems n g → HasItems n h → IsShort n (twin_steers v p t g h)
twin_steers_short facts v p n t g h short ht hg hh = either (same_party p (next v)) where
  either : (b : Bool) → IsShort n (if b then steered_order t g h else t)
  either true = short_items n t (steered_order t g h) short (steered_has facts n t g h ht hg hh)
  either false = short

two_below : Facts → (v p : Party) (t u g h : List ℕ) (n : ℕ) (b : Both) → BothBelow b → BothBelow (steer_both v p t u g h n b)
two_below facts v p t u g h n b i =
    both_below facts v p (composed (inverse_of t) g) (composed (inverse_of u) h) n (drawn_both v p t u n b) (both_below facts v (next p) t u n b i)

needed_if : (P : ℕ → Type 0) (n : ℕ) (b : Bool) → P n → AllByRecursion P (if b then n ∷ [] else [])
needed_if P n true h = (h, tt)
needed_if P n false h = tt

-- ---- the two parts

module _ {T : Type 0} (accepts : T → List Shape → List Shape → Bool) (answer : T → List (List ℕ) → List (List ℕ)) where
  pub steer_fits : Facts → (by s : ℕ) (moved : List ℕ) → Fits {T = T} accepts answer (Steer by s moved)
  steer_fits facts by s moved l m ds allowed h =
      let n = rows_moved l moved in
      let c = length moved in
      let p = party_of by in
      let may = steer_allowed accepts l by s moved allowed.step in
      let drawn = steer_drawn facts p c n ds allowed.draws in
      let g = slot_of m p s in
      let x = moving m moved ds in
      let y = private_phase p g n ds x in
      let is = steer_made facts p g n c ds x (private_has l m by s moved h may).long (length-map moved (shares m)) drawn refl in
      let full = full_of n y.shares is.long (steer_below facts p g n ds x (moving_below l m moved ds h drawn.below)).shares in
      more_registers l m (map (length_of l) moved) y.shares h (full_zip l n moved y.shares may.together full is.count)

  pub steer_meets : Facts → (by s : ℕ) (moved : List ℕ) → MeetsNeeds {T = T} accepts answer (Steer by s moved)
  steer_meets facts by s moved v l x y ds allowed hx hy =
      let n = rows_moved l moved in
      let c = length moved in
      let p = party_of by in
      let may = steer_allowed accepts l by s moved allowed.step in
      let drawn = steer_drawn facts p c n ds allowed.draws in
      let g = slot_of x p s in
      let h = slot_of y p s in
      let t = order_in (at (next p) ds) in
      let u = twin_steers v p t g h in
      let short = twin_steers_short facts v p n t g h (short_of n ds (next p) drawn.order) (items_of n (at (next p) ds) drawn.order)
      (private_has l x by s moved hx may) (private_has l y by s moved hy may) in
      let b = begin_both x y moved ds in
      let start : BothBelow b = record { one = moving_below l x moved ds hx drawn.below; other = moving_below l y moved ds hy drawn.below; changes = none_below } in
      let words = two_below facts v p t u g h n b start in
      let needed = subst (AllByRecursion (λ k. Meets (OrderOf k) (Order u))) (sym (steer_order_needed p (before v) c n))
      (needed_if (λ k. Meets (OrderOf k) (Order u)) n (same_party (before v) (next p)) (short.short, short.long)) in
      changed_fits facts u (steer_both v p t u g h n b).changes (at (before v) (needs_steer p c n)) (at (before v) ds) (allowed.draws (before v))
      (suits_all u (at (before v) (needs_steer p c n)) needed) words.changes
