-- The trace of a list, from those of its pieces.
use Rattle.std.proofs.Common.{◌≡◌, ℕ, Bool, true, false, cond, eqb, List, [], ◌∷◌, ◌++◌, get_or, refl, sym, ap, ◌∙◌, subst, true≢false, append-nil}
use Rattle.std.specs.Prelude.{IsTrue}
use Rattle.lanes.specs.declared.party.Party.{Party}
use Rattle.step_lists.specs.Draws.{ThreeTapes, needs_of, taken, dropped}
use Rattle.step_lists.specs.Layout.{Steps, Layout, grown, layout_of, starting}
use Rattle.step_lists.specs.declared.step.Step.{Step}
use Rattle.step_lists.specs.declared.step.Step.TheVariants.{Const, Lin, And, Share, Reveal, Steer, Tell, Work, Flag}
use Rattle.step_lists.specs.Open.{SlotWords, Open, open_of, open_going, open_step, opening}
use Rattle.step_lists.specs.Possible.{Fits, Possible, behind}
use Rattle.step_lists.specs.Prefixes.{needs_first, open-behind, open_run, seen_append}
use Rattle.step_lists.specs.Run.{rest_after, tape_cut}
use Rattle.step_lists.specs.Seen.{Seen, Rows, Told, Flagged, AreAlike, none, seen, seen_step, seen_from, seen_behind}
use Rattle.emit.specs.Adds.{AllMay}
use Rattle.emit.specs.AddsLaws.{alike-append}
use Rattle.lowering.specs.Trace.{Traced, up_to_flag, has_stop}

-- ---- lists of what is seen

pub up_to-append : (xs ys : List Seen) → has_stop xs ≡ false → up_to_flag (xs ++ ys) ≡ up_to_flag xs ++ up_to_flag ys
up_to-append [] ys h = refl
up_to-append (Rows rs ∷ xs) ys h = ap (λ zs. Rows rs ∷ zs) (up_to-append xs ys h)
up_to-append (Told ws ∷ xs) ys h = ap (λ zs. Told ws ∷ zs) (up_to-append xs ys h)
up_to-append (Flagged ws ∷ xs) ys h = ap (λ zs. Flagged ws ∷ zs) (by (λ k. up_to-append xs ys k) (eqb (get_or ws 0 0) 0) h)
  where
    by : (has_stop xs ≡ false → up_to_flag (xs ++ ys) ≡ up_to_flag xs ++ up_to_flag ys) → (b : Bool) → cond b (has_stop xs) true ≡ false → cond b (up_to_flag (xs ++ ys)) [] ≡ cond b (up_to_flag xs) [] ++ up_to_flag ys
    by rest true k = rest k
    by rest false k = absurd (true≢false k)

pub up_to-stopped : (xs ys : List Seen) → has_stop xs ≡ true → up_to_flag (xs ++ ys) ≡ up_to_flag xs
up_to-stopped [] ys h = absurd (true≢false (sym h))
up_to-stopped (Rows rs ∷ xs) ys h = ap (λ zs. Rows rs ∷ zs) (up_to-stopped xs ys h)
up_to-stopped (Told ws ∷ xs) ys h = ap (λ zs. Told ws ∷ zs) (up_to-stopped xs ys h)
up_to-stopped (Flagged ws ∷ xs) ys h = ap (λ zs. Flagged ws ∷ zs) (by (λ k. up_to-stopped xs ys k) (eqb (get_or ws 0 0) 0) h)
  where
    by : (has_stop xs ≡ true → up_to_flag (xs ++ ys) ≡ up_to_flag xs) → (b : Bool) → cond b (has_stop xs) true ≡ true → cond b (up_to_flag (xs ++ ys)) [] ≡ cond b (up_to_flag xs) []
    by rest true k = rest k
    by rest false k = refl

pub has_stop-append : (xs ys : List Seen) → has_stop (xs ++ ys) ≡ cond (has_stop xs) true (has_stop ys)
has_stop-append [] ys = refl
has_stop-append (Rows rs ∷ xs) ys = has_stop-append xs ys
has_stop-append (Told ws ∷ xs) ys = has_stop-append xs ys
has_stop-append (Flagged ws ∷ xs) ys = by (has_stop-append xs ys) (eqb (get_or ws 0 0) 0)
  where
    by : has_stop (xs ++ ys) ≡ cond (has_stop xs) true (has_stop ys) → (b : Bool) → cond b (has_stop (xs ++ ys)) true ≡ cond (cond b (has_stop xs) true) true (has_stop ys)
    by rest true = rest
    by rest false = refl

or_false : (b : Bool) → cond b true false ≡ b
or_false true = refl
or_false false = refl

alike_same : {xs ys us vs : List Seen} → xs ≡ us → vs ≡ ys → AreAlike us vs → AreAlike xs ys
alike_same {xs} {ys} {us} {vs} e f h = subst (AreAlike xs) f (subst (λ zs. AreAlike zs vs) (sym e) h)

-- nothing in it is a flag
pub record IsQuiet (xs : List Seen) : Type 0 where
  pub whole : up_to_flag xs ≡ xs
  pub goes : has_stop xs ≡ false

-- ---- states that stopped, and steps without a flag

abbrev pub is_no_flag : {T : Type 0} → Step T → Bool
is_no_flag (Const words) = true
is_no_flag (Lin op) = true
is_no_flag (And left right) = true
is_no_flag (Share party slot) = true
is_no_flag (Reveal to moved shown) = true
is_no_flag (Steer by slot moved) = true
is_no_flag (Tell source target slot) = true
is_no_flag (Work party task takes gives) = true
is_no_flag (Flag party slot) = false

module _ {T : Type 0} (answer : T → List (List ℕ) → List (List ℕ)) where
  pub stopped_seen : (v : Party) (l : Layout) (o : Open) (ss : List (Step T)) (ds : ThreeTapes) → o.stop ≡ true → seen_from answer v l o ss ds ≡ []
  stopped_seen v l o [] ds h = refl
  stopped_seen v l o (s ∷ ss) ds h =
      ap (λ b. cond b [] (seen_step v l o s) ++ seen_from answer v (grown l s) (cond b o (open_step answer o s (taken (needs_of l s) ds))) ss (dropped (needs_of l s) ds)) h
      ∙ stopped_seen v (grown l s) o ss (dropped (needs_of l s) ds) h

  quiet_step : (o : Open) (s : Step T) (ds : ThreeTapes) → IsTrue (is_no_flag s) → (open_step answer o s ds).stop ≡ o.stop
  quiet_step o (Const words) ds h = refl
  quiet_step o (Lin op) ds h = refl
  quiet_step o (And a b) ds h = refl
  quiet_step o (Share p s) ds h = refl
  quiet_step o (Reveal to moved shown) ds h = refl
  quiet_step o (Steer p s moved) ds h = refl
  quiet_step o (Tell source target s) ds h = refl
  quiet_step o (Work p task takes gives) ds h = refl
  quiet_step o (Flag p s) ds h = absurd (true≢false (sym h))

  quiet_going : (l : Layout) (o : Open) (s : Step T) (ds : ThreeTapes) → IsTrue (is_no_flag s) → (open_going answer l o s ds).stop ≡ o.stop
  quiet_going l o s ds h = by o.stop refl
    where
      by : (b : Bool) → o.stop ≡ b → (cond b o (open_step answer o s ds)).stop ≡ o.stop
      by true e = refl
      by false e = quiet_step o s ds h

  pub quiet_run : (l : Layout) (o : Open) (ss : List (Step T)) (ds : ThreeTapes) → AllMay is_no_flag ss → (open_run answer l o ss ds).stop ≡ o.stop
  quiet_run l o [] ds h = refl
  quiet_run l o (s ∷ ss) ds h =
      quiet_run (grown l s) (open_going answer l o s (taken (needs_of l s) ds)) ss (dropped (needs_of l s) ds) h.1 ∙ quiet_going l o s (taken (needs_of l s) ds) h.0

pub fits_behind : {T : Type 0} (a : Steps T) (more : List (Step T)) (slots : SlotWords) (ds : ThreeTapes) → Fits (behind a more) slots ds → Fits a slots ds
fits_behind a more slots ds h = record { slots_fit = h.slots_fit; tapes_fit = λ p. needs_first p (starting a.first) a.steps more ds (h.tapes_fit p) }

module _ {T W : Type 0} (answer : T → List (List ℕ) → List (List ℕ)) (load : W → SlotWords) where
  -- more steps without a flag, over what they add in possible environments
  pub traced_more : (a : Steps T) (steps : List (Step T)) (want add : W → Party → List Seen) → Traced answer load a want → AllMay is_no_flag steps
      → ((w : W) (v : Party) → IsQuiet (add w v))
      → ((w : W) (ds : ThreeTapes) → Possible answer (behind a steps) (load w) ds → (v : Party) → AreAlike (seen_behind answer v a steps (load w) ds) (add w v))
      → Traced answer load (behind a steps) (λ w v. want w v ++ add w v)
  traced_more a steps want add h quiet still shown = record {
    seen_is = λ w ds f v. seen_by w ds f v (has_stop (want w v)) refl;
    stop_is = stop_by;
  }
    where
      stop_is : (w : W) (ds : ThreeTapes) → (open_of answer (behind a steps) (load w) ds).stop ≡ (open_of answer a (load w) ds).stop
      stop_is w ds = ap (λ x. x.stop) (open-behind answer a steps (load w) ds) ∙ quiet_run answer (layout_of a) (open_of answer a (load w) ds) steps (rest_after tape_cut (starting a.first) a.steps ds) quiet

      seen_by : (w : W) (ds : ThreeTapes) → Fits (behind a steps) (load w) ds → (v : Party) (b : Bool) → has_stop (want w v) ≡ b → AreAlike (seen answer v (behind a steps) (load w) ds) (up_to_flag (want w v ++ add w v))
      seen_by w ds f v true e =
          let fa = fits_behind a steps (load w) ds f in
          alike_same (seen_append answer v a steps (load w) ds ∙ ap (λ xs. seen answer v a (load w) ds ++ xs) (stopped_seen answer v (layout_of a) (open_of answer a (load w) ds) steps (rest_after tape_cut (starting a.first) a.steps ds) (h.stop_is w ds fa v ∙ e)) ∙ append-nil (seen answer v a (load w) ds))
          (sym (up_to-stopped (want w v) (add w v) e)) (h.seen_is w ds fa v)
      seen_by w ds f v false e =
          let fa = fits_behind a steps (load w) ds f in
          alike_same (seen_append answer v a steps (load w) ds) (sym (up_to-append (want w v) (add w v) e ∙ ap (λ xs. up_to_flag (want w v) ++ xs) (still w v).whole))
          (alike-append (h.seen_is w ds fa v)
          (shown w ds (record { fits = f; going = stop_is w ds ∙ h.stop_is w ds fa v ∙ e }) v))

      stop_by : (w : W) (ds : ThreeTapes) → Fits (behind a steps) (load w) ds → (v : Party) → (open_of answer (behind a steps) (load w) ds).stop ≡ has_stop (want w v ++ add w v)
      stop_by w ds f v =
          stop_is w ds ∙ h.stop_is w ds (fits_behind a steps (load w) ds f) v ∙ sym (has_stop-append (want w v) (add w v) ∙ ap (cond (has_stop (want w v)) true) (still w v).goes ∙ or_false (has_stop (want w v)))

  -- a list with no step shows nothing
  pub traced_none : (a : Steps T) → a.steps ≡ [] → Traced answer load a (λ w v. [])
  traced_none a e = record {
    seen_is = λ w ds f v. subst (λ ss. AreAlike (seen_from answer v (starting a.first) (opening (load w)) ss ds) []) (sym e) none;
    stop_is = λ w ds f v. ap (λ ss. (open_run answer (starting a.first) (opening (load w)) ss ds).stop) e;
  }
