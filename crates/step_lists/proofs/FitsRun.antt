-- The open values of a run fit its layout; a Reveal's three orders are one.
use Rattle.std.proofs.Common.{◌≡◌, ℕ, ◌*◌, Bool, true, false, cond, List, [], ◌∷◌, length, map, sym, ap, subst, ◌∙◌, arith, true≢false}
use Rattle.std.specs.List.{AllByRecursion}
use Rattle.lanes.specs.declared.party.Party.{Party}
use Rattle.lanes.specs.declared.party.Party.TheVariants.{First, Second, Third}
use Rattle.lanes.specs.declared.three.Three.{Three}
use Rattle.lanes.specs.Three.{at}
use Rattle.lanes.specs.Word.{AreWords}
use Rattle.tapes.specs.Order.{applied, composed}
use Rattle.step_lists.specs.declared.step.Shape.{Shape}
use Rattle.step_lists.specs.declared.step.Shape.TheVariants as shapes
use Rattle.step_lists.specs.Layout.{Layout, Step, Reveal, Steps, starting, grown, grown_by, layout_of, rows_moved}
use Rattle.step_lists.specs.Rules.{is_small, fits_layout, AreFine, IsWellFormed}
use Rattle.step_lists.specs.Shapes.{HaveShapes, IsLawful}
use Rattle.step_lists.specs.Draws.{ThreeTapes, needs, needs_of, order_in, taken, dropped}
use Rattle.step_lists.specs.Run.{tape_cut, rest_after}
use Rattle.step_lists.specs.Open.{SlotWords, Open, opening, open_step, open_going, open_of}
use Rattle.step_lists.specs.OpenFits.{OpenFits}
use Rattle.step_lists.specs.Possible.{FitsFront, SlotsFit, Fits, Possible, behind}
use Rattle.step_lists.specs.Prefixes.{open_run, grows_going, grows_run, fits_rest, needs_rest, at-taken, at-dropped}
use Rattle.step_lists.specs.Laws.{drawn_behind, RevealOrder}
use Rattle.step_lists.proofs.Facts.{Facts}
use Rattle.step_lists.proofs.Listing.{both}
use Rattle.step_lists.proofs.Drawn.{RevealDraws, front_fits, reveal_draws}
use Rattle.step_lists.proofs.OpenFits.{step_fits}

starts_fit : (first : Three (List ℕ)) (slots : SlotWords) → SlotsFit first slots → OpenFits (starting first) (opening slots)
starts_fit first slots h = record { registers = tt; slots = slots_of } where
  shapes_of : (ns : List ℕ) (xs : List (List ℕ)) → map length xs ≡ ns → AllByRecursion AreWords xs → HaveShapes (map shapes.Words ns) xs
  shapes_of [] [] e h = tt
  shapes_of [] (x ∷ xs) e h = absurd (let f = ap length e in omega arith)
  shapes_of (n ∷ ns) [] e h = absurd (let f = ap length e in omega arith)
  shapes_of (n ∷ ns) (x ∷ xs) e h = (record { long = head e; below = h.0 }, shapes_of ns xs (tail e) h.1) where
    head : length x ∷ map length xs ≡ n ∷ ns → length x ≡ n
    head e = cc

    tail : length x ∷ map length xs ≡ n ∷ ns → map length xs ≡ ns
    tail e = cc

  slots_of : (p : Party) → HaveShapes (at p (starting first).slots) (at p slots)
  slots_of First = shapes_of first.first slots.first (h.long First) (h.below First)
  slots_of Second = shapes_of first.second slots.second (h.long Second) (h.below Second)
  slots_of Third = shapes_of first.third slots.third (h.long Third) (h.below Third)

module _ {T : Type 0} (accepts : T → List Shape → List Shape → Bool) (answer : T → List (List ℕ) → List (List ℕ)) where
  fits_run : Facts → IsLawful accepts answer → (l : Layout) (o : Open) (ss : List (Step T)) (ds : ThreeTapes) → AreFine accepts l ss
      → ((p : Party) → FitsFront (needs p l ss) (at p ds)) → OpenFits l o → (open_run answer l o ss ds).stop ≡ false
      → OpenFits (grown_by l ss) (open_run answer l o ss ds)
  fits_run facts law l o [] ds fine fit h going = h
  fits_run facts law l o (s ∷ ss) ds fine fit h going =
      fits_run facts law (grown l s) (open_going answer l o s (taken (needs_of l s) ds)) ss (dropped (needs_of l s) ds) fine.1
      (λ p. subst (FitsFront (needs p (grown l s) ss)) (sym (at-dropped p (needs_of l s) ds)) (fits_rest (at p (needs_of l s)) (needs p (grown l s) ss) (at p ds) (fit p)))
      (by o.stop early) going
    where
      early : o.stop ≡ false
      early = (grows_going answer l o s (taken (needs_of l s) ds)).going ((grows_run answer (grown l s) (open_going answer l o s (taken (needs_of l s) ds)) ss (dropped (needs_of l s) ds)).going going)

      by : (b : Bool) → b ≡ false → OpenFits (grown l s) (cond b o (open_step answer o s (taken (needs_of l s) ds)))
      by true e = absurd (true≢false e)
      by false e =
          step_fits accepts answer facts law l o s (taken (needs_of l s) ds) (both (fits_layout accepts l s) (is_small (grown l s)) fine.0).0
          (λ p. rw (at-taken p (needs_of l s) ds) (front_fits (at p (needs_of l s)) (needs p (grown l s) ss) (at p ds) (fit p))) h

  pub values_fit : Facts → IsLawful accepts answer → (list : Steps T) (slots : SlotWords) (ds : ThreeTapes) → IsWellFormed accepts list
      → Possible answer list slots ds → OpenFits (layout_of list) (open_of answer list slots ds)
  values_fit facts law list slots ds well h =
      fits_run facts law (starting list.first) (opening slots) list.steps ds well.fine h.fits.tapes_fit (starts_fit list.first slots h.fits.slots_fit) h.going

-- ---- the three orders of a Reveal

one_order : Facts → (n w : ℕ) (ds : ThreeTapes) → RevealDraws w n ds → RevealOrder n ds
one_order facts n w ds h =
    let a = order_in ds.first in
    let b = order_in ds.second in
    let c = order_in ds.third in
    let first = h.orders First in
    let second = h.orders Second in
    let third = h.orders Third in
    let ab : length a ≡ length b = first.long ∙ sym second.long in
    let two = facts.closed.composed a b first.order second.order ab in
    let bc : length (composed a b) ≡ length c = facts.lengths.pick b a ∙ second.long ∙ sym third.long in
    record {
      order = composed (composed a b) c;
      is_order = facts.closed.composed (composed a b) c two third.order bc;
      long = facts.lengths.pick c (composed a b) ∙ third.long;
      turns = λ xs. ap (applied c) (sym (facts.composed a b xs second.order ab)) ∙ sym (facts.composed (composed a b) c xs third.order bc);
    }

pub reveal_is_one : Facts → {T : Type 0} (a : Steps T) (to : ℕ) (moved shown : List ℕ) (slots : SlotWords) (ds : ThreeTapes)
    → Fits (behind a (Reveal to moved shown ∷ [])) slots ds → RevealOrder (rows_moved (layout_of a) moved) (drawn_behind a (Reveal to moved shown) ds)
reveal_is_one facts {T} a to moved shown slots ds h =
    let l = layout_of a in
    let s : Step T = Reveal to moved shown in
    let left = rest_after tape_cut (starting a.first) a.steps ds in
    let fit : (p : Party) → FitsFront (needs p l (s ∷ [])) (at p left) = λ p. needs_rest p (starting a.first) a.steps (s ∷ []) ds (h.tapes_fit p) in
    one_order facts (rows_moved l moved) (length moved * rows_moved l moved) (taken (needs_of l s) left)
    (reveal_draws (length moved) (rows_moved l moved) (taken (needs_of l s) left)
    (λ p. rw (at-taken p (needs_of l s) left) (front_fits (at p (needs_of l s)) (needs {T = T} p (grown l s) []) (at p left) (fit p))))
