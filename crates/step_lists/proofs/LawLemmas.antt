-- The laws of one step more.
use Rattle.std.proofs.Common.{◌≡◌, ℕ, suc, ◌<◌, Bool, true, false, cond, eqb, List, [], ◌∷◌, ◌++◌, length, append-nil, refl, sym, ap, ◌∙◌, subst, arith, true≢false}
use Rattle.std.specs.Prelude.{slice_index}
use Rattle.std.proofs.lemmas.Bool.Decides.{nat_tests}
use Rattle.lanes.specs.declared.party.Party.{Party}
use Rattle.lanes.specs.Three.{at}
use Rattle.step_lists.specs.Layout.{Step, Flag, Steps, Layout, party_of, starting, grown, layout_of, length_of, shape_of}
use Rattle.lanes.specs.declared.party.Party.TheVariants.{First, Second, Third}
use Rattle.step_lists.specs.Draws.{ThreeTapes, needs, needs_of, taken, dropped}
use Rattle.step_lists.specs.Run.{tape_cut, rest_after}
use Rattle.step_lists.specs.Open.{SlotWords, Open, slot, after_flag, open_step, open_going, open_of}
use Rattle.step_lists.specs.Seen.{Flagged, seen, seen_from, seen_step}
use Rattle.step_lists.specs.Possible.{FitsFront, Possible, StandsIn, behind}
use Rattle.step_lists.specs.Prefixes.{open-behind, open_run, layout_prefix, seen_append, needs_append}
use Rattle.step_lists.specs.Laws.{StepValues, FlagsDecide, drawn_behind}

pub keeps_layout : {T : Type 0} (a b : Steps T) → StandsIn a b
    → ((r : ℕ) → r < length (layout_of a).registers → (r < length (layout_of b).registers) × (length_of (layout_of b) r ≡ length_of (layout_of a) r))
    × ((p : Party) (s : ℕ) → s < length (at p (layout_of a).slots) → (s < length (at p (layout_of b).slots)) × (shape_of (layout_of b) p s ≡ shape_of (layout_of a) p s))
keeps_layout a b h =
    let g = layout_prefix a b h in
    (λ r i. (omega (arith, g.count), g.registers r i), λ p s i. (omega (arith, g.slot_count p), g.slots p s i))

going_is : {A : Type 0} (b : Bool) (x y : A) → b ≡ false → cond b x y ≡ y
going_is true x y e = absurd (true≢false e)
going_is false x y e = refl

ended_is : {A : Type 0} (b : Bool) (x y : A) → b ≡ true → cond b x y ≡ x
ended_is true x y e = refl
ended_is false x y e = absurd (true≢false (sym e))

module _ {T : Type 0} (answer : T → List (List ℕ) → List (List ℕ)) where
  pub step_value : StepValues answer
  step_value a s slots ds going =
      open-behind answer a (s ∷ []) slots ds
      ∙ going_is (open_of answer a slots ds).stop (open_of answer a slots ds) (open_step answer (open_of answer a slots ds) s (drawn_behind a s ds)) going

  -- after a stop nothing is done, and nothing is seen
  stopped_run : (l : Layout) (o : Open) (ss : List (Step T)) (ds : ThreeTapes) → o.stop ≡ true → open_run answer l o ss ds ≡ o
  stopped_run l o [] ds e = refl
  stopped_run l o (s ∷ ss) ds e =
      ap (λ x. open_run answer (grown l s) x ss (dropped (needs_of l s) ds)) (ended_is o.stop o (open_step answer o s (taken (needs_of l s) ds)) e)
      ∙ stopped_run (grown l s) o ss (dropped (needs_of l s) ds) e

  stopped_seen : (v : Party) (l : Layout) (o : Open) (ss : List (Step T)) (ds : ThreeTapes) → o.stop ≡ true → seen_from answer v l o ss ds ≡ []
  stopped_seen v l o [] ds e = refl
  stopped_seen v l o (s ∷ ss) ds e =
      ap (λ xs. xs ++ seen_from answer v (grown l s) (open_going answer l o s (taken (needs_of l s) ds)) ss (dropped (needs_of l s) ds)) (ended_is o.stop [] (seen_step v l o s) e)
      ∙ ap (λ x. seen_from answer v (grown l s) x ss (dropped (needs_of l s) ds)) (ended_is o.stop o (open_step answer o s (taken (needs_of l s) ds)) e)
      ∙ stopped_seen v (grown l s) o ss (dropped (needs_of l s) ds) e

  -- a flag in a run that goes on
  flag_zero : (o : Open) (ws : List ℕ) → slice_index ws 0 ≡ 0 → (after_flag o ws).stop ≡ o.stop
  flag_zero o ws e = by (eqb (slice_index ws 0) 0) (ap (λ n. eqb n 0) e) where
    by : (b : Bool) → b ≡ true → (cond b (record o { flags = suc o.flags }) (record o { stop = true })).stop ≡ o.stop
    by true h = refl
    by false h = absurd (true≢false (sym h))

  flag_other : (o : Open) (ws : List ℕ) → ¬ (slice_index ws 0 ≡ 0) → after_flag o ws ≡ record o { stop = true }
  flag_other o ws n = by (eqb (slice_index ws 0) 0) refl where
    by : (b : Bool) → eqb (slice_index ws 0) 0 ≡ b → cond b (record o { flags = suc o.flags }) (record o { stop = true }) ≡ record o { stop = true }
    by true h = absurd (n (grind (arith, nat_tests)))
    by false h = refl

  none_drawn : (q : Party) (l : Layout) (p s : ℕ) → needs {T = T} q l (Flag p s ∷ []) ≡ []
  none_drawn First l p s = refl
  none_drawn Second l p s = refl
  none_drawn Third l p s = refl

  no_more : (q : Party) (a : Steps T) (p s : ℕ) → needs q (starting a.first) a.steps ++ needs {T = T} q (layout_of a) (Flag p s ∷ []) ≡ needs q (starting a.first) a.steps
  no_more q a p s = ap (λ ns. needs q (starting a.first) a.steps ++ ns) (none_drawn q (layout_of a) p s) ∙ append-nil (needs q (starting a.first) a.steps)

  pub flags_decide : FlagsDecide answer
  flags_decide = record { goes = goes; stops = stops; shows = shows } where
    goes : (a : Steps T) (p s : ℕ) (slots : SlotWords) (ds : ThreeTapes) → Possible answer a slots ds
        → slice_index (slot (open_of answer a slots ds) (party_of p) s) 0 ≡ 0 → Possible answer (behind a (Flag p s ∷ [])) slots ds
    goes a p s slots ds h e = record {
      fits = record {
        slots_fit = h.fits.slots_fit;
        tapes_fit = λ q. subst (λ ns. FitsFront ns (at q ds)) (sym (needs_append q (starting a.first) a.steps (Flag p s ∷ []) ∙ no_more q a p s)) (h.fits.tapes_fit q);
      };
      going = ap (λ o. o.stop) (step_value a (Flag p s) slots ds h.going) ∙ flag_zero (open_of answer a slots ds) (slot (open_of answer a slots ds) (party_of p) s) e ∙ h.going;
    }

    stops : (a : Steps T) (p s : ℕ) (more : List (Step T)) (slots : SlotWords) (ds : ThreeTapes) → (open_of answer a slots ds).stop ≡ false
        → ¬ (slice_index (slot (open_of answer a slots ds) (party_of p) s) 0 ≡ 0)
        → open_of answer (behind a (Flag p s ∷ more)) slots ds ≡ record (open_of answer a slots ds) { stop = true }
    stops a p s more slots ds going n =
        let o = open_of answer a slots ds in
        let halted = record o { stop = true } in
        let l = layout_of a in
        let left = rest_after tape_cut (starting a.first) a.steps ds in
        let here : open_going answer l o (Flag p s) (taken (needs_of {T = T} l (Flag p s)) left) ≡ halted
        = going_is o.stop o (after_flag o (slot o (party_of p) s)) going ∙ flag_other o (slot o (party_of p) s) n in
        open-behind answer a (Flag p s ∷ more) slots ds
        ∙ ap (λ x. open_run answer (grown {T = T} l (Flag p s)) x more (dropped (needs_of {T = T} l (Flag p s)) left)) here
        ∙ stopped_run (grown {T = T} l (Flag p s)) halted more (dropped (needs_of {T = T} l (Flag p s)) left) refl

    shows : (v : Party) (a : Steps T) (p s : ℕ) (more : List (Step T)) (slots : SlotWords) (ds : ThreeTapes) → (open_of answer a slots ds).stop ≡ false
        → ¬ (slice_index (slot (open_of answer a slots ds) (party_of p) s) 0 ≡ 0)
        → seen answer v (behind a (Flag p s ∷ more)) slots ds ≡ seen answer v a slots ds ++ Flagged (slot (open_of answer a slots ds) (party_of p) s) ∷ []
    shows v a p s more slots ds going n =
        let o = open_of answer a slots ds in
        let halted = record o { stop = true } in
        let l = layout_of a in
        let left = rest_after tape_cut (starting a.first) a.steps ds in
        let rest = dropped (needs_of {T = T} l (Flag p s)) left in
        let here : open_going answer l o (Flag p s) (taken (needs_of {T = T} l (Flag p s)) left) ≡ halted
        = going_is o.stop o (after_flag o (slot o (party_of p) s)) going ∙ flag_other o (slot o (party_of p) s) n in
        seen_append answer v a (Flag p s ∷ more) slots ds
        ∙ ap (λ xs. seen answer v a slots ds ++ xs)
        (ap (λ xs. xs ++ seen_from answer v (grown {T = T} l (Flag p s)) (open_going answer l o (Flag p s) (taken (needs_of {T = T} l (Flag p s)) left)) more rest)
        (going_is o.stop [] (Flagged (slot o (party_of p) s) ∷ []) going)
        ∙ ap (λ xs. Flagged (slot o (party_of p) s) ∷ xs)
        (ap (λ x. seen_from answer v (grown {T = T} l (Flag p s)) x more rest) here ∙ stopped_seen v (grown {T = T} l (Flag p s)) halted more rest refl))
