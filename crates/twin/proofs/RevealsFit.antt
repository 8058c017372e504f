-- A Reveal keeps a machine fitting, and the twin's draws are what it needs.
use Rattle.std.proofs.Common.{◌≡◌, ℕ, zero, suc, ◌*◌, ◌<◌, Bool, true, false, List, [], ◌∷◌, length, map, refl, sym, subst, ◌∙◌, arith}
use Rattle.std.specs.Prelude.{IsTrue, ◌&&◌, not, nat_lt, if◌then◌else◌, slice_index_or}
use Rattle.std.specs.List.{AllZip, AllByRecursion, list_all}
use Rattle.std.proofs.lemmas.List.{length-map}
use Rattle.lanes.specs.declared.party.Party.{Party}
use Rattle.lanes.specs.declared.party.Party.TheVariants.{First, Second, Third}
use Rattle.lanes.specs.Party.{before}
use Rattle.lanes.specs.Three.{at, opened}
use Rattle.lanes.specs.Lanes.{xors}
use Rattle.tapes.specs.declared.draw.Need.TheVariants.{OrderOf}
use Rattle.tapes.specs.declared.draw.Draw.TheVariants.{Order}
use Rattle.tapes.specs.Needs.{Meets}
use Rattle.tapes.specs.Order.{IsShortOrder}
use Rattle.step_lists.specs.declared.step.Shape.{Shape}
use Rattle.step_lists.specs.declared.step.Shape.TheVariants as shapes
use Rattle.step_lists.specs.declared.step.Step.TheVariants.{Reveal}
use Rattle.step_lists.specs.Layout.{Layout, party_of, length_of, rows_moved, with_lengths}
use Rattle.step_lists.specs.Rules.{is_party, is_empty, move_together, fits_layout}
use Rattle.step_lists.specs.Shapes.{HasLength, HaveShapes}
use Rattle.step_lists.specs.Seen.{same_party}
use Rattle.step_lists.specs.Draws.{ThreeTapes, nothing, order_in, needs_reveal}
use Rattle.step_lists.specs.Part.{is_order}
use Rattle.step_lists.specs.Phases.{Shares, Moving}
use Rattle.step_lists.specs.Machine.{Machine, shares, with_shares, moving, third_phase, shown_shares}
use Rattle.step_lists.specs.Twin.{Both, begin_both, first_both, second_both, third_both, with_order, open_rows, aligning, shifted, reveal_order, earlier_orders}
use Rattle.twin.proofs.Facts.{Facts}
use Rattle.twin.proofs.Lists.{both, below}
use Rattle.twin.proofs.Masks.{changed_fits}
use Rattle.twin.proofs.Fitted.{none_below, more_registers, slots_more}
use Rattle.twin.proofs.Same.{IsFull, Fitting}
use Rattle.twin.proofs.Steps.{Fits, Meets as MeetsNeeds}
use Rattle.twin.proofs.Orders.{HasItems, identity_has, composed_has, shifted_has}
use Rattle.twin.proofs.OrdersTested.{passing_order}
use Rattle.twin.proofs.OrdersAligned.{aligning_long, rows_long}
use Rattle.twin.proofs.PhasesDrawn.{HasOrder, items_of, RevealDrawn, reveal_drawn, reveal_order_needed, suits_all}
use Rattle.twin.proofs.PhasesFull.{full_of, BothBelow, both_below}
use Rattle.twin.proofs.PhasesMade.{IsMoved, moved_together, moving_below, reveal_phased, reveal_below}

-- ---- what the rules say of a Reveal

pub record IsAllowed (l : Layout) (moved shown : List ℕ) : Type 0 where
  pub together : AllByRecursion (IsMoved l (rows_moved l moved)) moved
  pub within : IsTrue (list_all (λ k. nat_lt k (length moved)) shown)

module _ {T : Type 0} (accepts : T → List Shape → List Shape → Bool) where
  pub reveal_allowed : (l : Layout) (to : ℕ) (moved shown : List ℕ) → IsTrue (fits_layout {T = T} accepts l (Reveal to moved shown)) → IsAllowed l moved shown
  reveal_allowed l to moved shown h =
      let one = both ((is_party to && move_together l moved) && not (is_empty shown)) (list_all (λ k. nat_lt k (length moved)) shown) h in
      let two = both (is_party to && move_together l moved) (not (is_empty shown)) one.0 in
      let three = both (is_party to) (move_together l moved) two.0 in
      record { together = moved_together l moved three.1; within = one.1 }

-- ---- full registers and slots

-- registers that were made of moved ones
pub full_zip : (l : Layout) (n : ℕ) (moved : List ℕ) (ss : List Shares) → AllByRecursion (IsMoved l n) moved → AllByRecursion (IsFull n) ss → length ss ≡ length moved
    → AllZip IsFull (map (length_of l) moved) ss
full_zip l n [] [] h i e = tt
full_zip l n [] (s ∷ ss) h i e = absurd (omega arith)
full_zip l n (r ∷ rs) [] h i e = absurd (omega arith)
full_zip l n (r ∷ rs) (s ∷ ss) h i e = (subst (λ k. IsFull k s) (sym h.0.long) i.0, full_zip l n rs ss h.1 i.1 (omega arith))

pub opened_full : Facts → (n : ℕ) (s : Shares) → IsFull n s → HasLength n (opened s)
opened_full facts n s h =
    let a = h.each First in
    let b = h.each Second in
    let c = h.each Third in
    let la = a.long in
    let lb = b.long in
    let lc = c.long in
    let lab = facts.lengths.xor s.first s.second in
    let labc = facts.lengths.xor (xors s.first s.second) s.third in
    record { long = omega arith; below = facts.stay.xor (xors s.first s.second) s.third (facts.stay.xor s.first s.second a.below b.below) c.below }

full_at : (n : ℕ) (ss : List Shares) (k : ℕ) → AllByRecursion (IsFull n) ss → k < length ss → IsFull n (slice_index_or ss k nothing)
full_at n [] k h i = absurd (omega arith)
full_at n (s ∷ ss) zero h i = h.0
full_at n (s ∷ ss) (suc k) h i = full_at n ss k h.1 (omega arith)

shown_fits : Facts → (n m : ℕ) (y : Moving) (shown : List ℕ) → AllByRecursion (IsFull n) y.shares → length y.shares ≡ m → IsTrue (list_all (λ k. nat_lt k m) shown)
    → HaveShapes (map (λ k. shapes.Words n) shown) (map opened (shown_shares y shown))
shown_fits facts n m y [] h e i = tt
shown_fits facts n m y (k ∷ shown) h e i =
    let p = both (nat_lt k m) (list_all (λ k. nat_lt k m) shown) i in
    let lt : k < m = below k m p.0 in
    (opened_full facts n (slice_index_or y.shares k nothing) (full_at n y.shares k h (omega arith)), shown_fits facts n m y shown h e p.1)

-- ---- the twin's order is a short order of the rows

pub earlier_has : Facts → (v : Party) (n w : ℕ) (ds : ThreeTapes) → RevealDrawn w n ds → HasItems n (earlier_orders (before v) n ds)
earlier_has facts First n w ds h =
    composed_has facts n (order_in ds.first) (order_in ds.second) (items_of n ds.first (h.orders First)) (items_of n ds.second (h.orders Second))
earlier_has facts Second n w ds h = identity_has facts n
earlier_has facts Third n w ds h = items_of n ds.first (h.orders First)

pub record IsShort (n : ℕ) (o : List ℕ) : Type 0 where
  pub short : IsShortOrder o
  pub long : length o ≡ n

pub short_items : (n : ℕ) (o p : List ℕ) → IsShort n o → HasItems n p → IsShort n p
short_items n o p h i =
    let few = h.short.short in
    let a = h.long in
    let b = i.long in
    record { short = record { order = i.order; short = omega arith }; long = i.long }

pub short_of : (n : ℕ) (ds : ThreeTapes) (p : Party) → HasOrder n (at p ds) → IsShort n (order_in (at p ds))
short_of n ds p h = record { short = h.short; long = h.long }

kept_or_shifted : Facts → (v : Party) (n w : ℕ) (ds : ThreeTapes) (d : List ℕ) (b : Bool) → is_order d ≡ b → length d ≡ n → RevealDrawn w n ds
    → IsShort n (if b then shifted (order_in (at (before v) ds)) (earlier_orders (before v) n ds) d else order_in (at (before v) ds))
kept_or_shifted facts v n w ds d true e long h =
    let o = order_in (at (before v) ds) in
    let a = earlier_orders (before v) n ds in
    let has = subst (λ k. HasItems k d) long (passing_order facts d e) in
    short_items n o (shifted o a d) (short_of n ds (before v) (h.orders (before v)))
    (shifted_has facts n o a d (items_of n (at (before v) ds) (h.orders (before v))) (earlier_has facts v n w ds h) has)
kept_or_shifted facts v n w ds d false e long h = short_of n ds (before v) (h.orders (before v))

-- the order that the twin draws
abbrev pub twin_order : Party → Party → ℕ → List ℕ → List ℕ → Machine → Machine → ThreeTapes → List ℕ
twin_order v q n moved shown x y ds =
    if same_party q v then reveal_order v n ds (open_rows x n moved shown) (open_rows y n moved shown) else order_in (at (before v) ds)

pub twin_order_short : Facts → (v q : Party) (n w : ℕ) (moved shown : List ℕ) (x y : Machine) (ds : ThreeTapes) → RevealDrawn w n ds
    → IsShort n (twin_order v q n moved shown x y ds)
twin_order_short facts v q n w moved shown x y ds h = by (same_party q v) where
  d : List ℕ
  d = aligning (open_rows y n moved shown) (open_rows x n moved shown)

  by : (b : Bool) → IsShort n (if b then reveal_order v n ds (open_rows x n moved shown) (open_rows y n moved shown) else order_in (at (before v) ds))
  by true = kept_or_shifted facts v n w ds d (is_order d) refl (aligning_long _ _ ∙ rows_long n _) h
  by false = short_of n ds (before v) (h.orders (before v))

-- ---- the two parts

begin_below : (l : Layout) (x y : Machine) (moved : List ℕ) (w n : ℕ) (ds : ThreeTapes) → Fitting l x → Fitting l y → RevealDrawn w n ds → BothBelow (begin_both x y moved ds)
begin_below l x y moved w n ds hx hy h = record {
  one = moving_below l x moved ds hx h.below;
  other = moving_below l y moved ds hy h.below;
  changes = none_below;
}

three_below : Facts → (v : Party) (ds es : ThreeTapes) (n : ℕ) (b : Both) → BothBelow b → BothBelow (third_both v ds es n b)
three_below facts v ds es n b h =
    both_below facts v Third (order_in ds.third) (order_in es.third) n (second_both v ds es n b)
    (both_below facts v Second (order_in ds.second) (order_in es.second) n (first_both v ds es n b)
    (both_below facts v First (order_in ds.first) (order_in es.first) n b h))

module _ {T : Type 0} (accepts : T → List Shape → List Shape → Bool) (answer : T → List (List ℕ) → List (List ℕ)) where
  pub reveal_fits : Facts → (to : ℕ) (moved shown : List ℕ) → Fits {T = T} accepts answer (Reveal to moved shown)
  reveal_fits facts to moved shown l m ds allowed h =
      let n = rows_moved l moved in
      let c = length moved in
      let may = reveal_allowed accepts l to moved shown allowed.step in
      let drawn = reveal_drawn facts c n ds allowed.draws in
      let x = moving m moved ds in
      let y = third_phase n ds x in
      let is = reveal_phased facts n c ds x (length-map moved (shares m)) drawn refl in
      let full = full_of n y.shares is.long (reveal_below facts n ds x (moving_below l m moved ds h drawn.below)).shares in
      slots_more (with_lengths l (map (length_of l) moved)) (with_shares m y.shares) (party_of to) (map (λ k. shapes.Words n) shown) (map opened (shown_shares y shown))
      (more_registers l m (map (length_of l) moved) y.shares h (full_zip l n moved y.shares may.together full is.count))
      (shown_fits facts n c y shown full is.count may.within)

  pub reveal_meets : Facts → (to : ℕ) (moved shown : List ℕ) → MeetsNeeds {T = T} accepts answer (Reveal to moved shown)
  reveal_meets facts to moved shown v l x y ds allowed hx hy =
      let n = rows_moved l moved in
      let c = length moved in
      let drawn = reveal_drawn facts c n ds allowed.draws in
      let order = twin_order v (party_of to) n moved shown x y ds in
      let short = twin_order_short facts v (party_of to) n (c * n) moved shown x y ds drawn in
      let b = third_both v ds (with_order v order ds) n (begin_both x y moved ds) in
      let words = three_below facts v ds (with_order v order ds) n (begin_both x y moved ds) (begin_below l x y moved (c * n) n ds hx hy drawn) in
      let meets : Meets (OrderOf n) (Order order) = (short.short, short.long) in
      let needed = subst (AllByRecursion (λ k. Meets (OrderOf k) (Order order))) (sym (reveal_order_needed (before v) c n)) (meets, tt) in
      changed_fits facts order b.changes (at (before v) (needs_reveal c n)) (at (before v) ds) (allowed.draws (before v))
      (suits_all order (at (before v) (needs_reveal c n)) needed) words.changes
