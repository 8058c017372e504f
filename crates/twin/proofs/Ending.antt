-- What the pass says of both worlds, in terms of what is seen.
use Rattle.std.proofs.Common.{◌≡◌, ℕ, ◌+◌, Bool, false, List, [], ◌∷◌, ◌++◌, take, drop, refl, sym, subst, ap, ◌∙◌, arith}
use Rattle.std.proofs.lemmas.List.{take-append-drop}
use Rattle.std.specs.Prelude.{if◌then◌else◌}
use Rattle.lanes.specs.declared.party.Party.{Party}
use Rattle.lanes.specs.Three.{at}
use Rattle.step_lists.specs.declared.step.Shape.{Shape}
use Rattle.step_lists.specs.declared.step.Step.{Step}
use Rattle.step_lists.specs.Layout.{Layout, Steps, grown_by, starting}
use Rattle.step_lists.specs.Rules.{IsWellFormed}
use Rattle.step_lists.specs.Shapes.{IsLawful}
use Rattle.step_lists.specs.Draws.{ThreeTapes, needs, needs_of, taken}
use Rattle.step_lists.specs.Run.{tape_cut, rest_after}
use Rattle.step_lists.specs.Open.{SlotWords, Open, open_of, opening}
use Rattle.step_lists.specs.Possible.{Fits, FitsFront, SlotsFit, TapesFit}
use Rattle.step_lists.specs.Prefixes.{needs_first}
use Rattle.step_lists.specs.Seen.{Seen, AreAlike, none, seen, seen_from}
use Rattle.step_lists.specs.Machine.{Machine, before_steps, joint_of}
use Rattle.step_lists.specs.Twin.{twin_tapes}
use Rattle.joint_machine.specs.Opens.{Opens, SharesAreOpened}
use Rattle.twin.specs.declared.fault.TwinFault.{TwinFault}
use Rattle.twin.specs.declared.fault.TwinFault.TheVariants.{NotAligned, Memory}
use Rattle.twin.specs.Apart.{IsApart, front, rows_seen}
use Rattle.twin.specs.Called.{IsTwinFault}
use Rattle.twin.specs.Passing.{IsApartHere, IsStepFault, shows}
use Rattle.twin.proofs.Facts.{Facts}
use Rattle.twin.proofs.Steps.{StepHolds}
use Rattle.twin.proofs.Shown.{front_fine, front_fits, going_seen, shown_seen, shows_are_seen}
use Rattle.twin.proofs.Whole.{twin_fits}
use Rattle.twin.proofs.Ahead.{AreApart, IsAhead, ShowAlike, shown_rest}

-- a front of a front
fits_again : {T : Type 0} (k : ℕ) (list : Steps T) (slots : SlotWords) (ds : ThreeTapes) → Fits list slots ds → Fits (front k list) slots ds
fits_again k list slots ds h = record {
  slots_fit = h.slots_fit;
  tapes_fit = λ p. needs_first p (starting list.first) (take k list.steps) (drop k list.steps) ds
      (subst (λ ss. FitsFront (needs p (starting list.first) ss) (at p ds)) (sym (take-append-drop k list.steps)) (h.tapes_fit p));
}

alike_by : (a b c d : List Seen) → a ≡ c → b ≡ d → AreAlike a b → AreAlike c d
alike_by a b c d e f h = subst (λ x. AreAlike x d) e (subst (AreAlike a) f h)

module _ {T : Type 0} (accepts : T → List Shape → List Shape → Bool) (answer : T → List (List ℕ) → List (List ℕ)) (facts : Facts)
    (holds : (s : Step T) → StepHolds accepts answer s) (opened : SharesAreOpened accepts answer) (law : IsLawful accepts answer) where
  front_shown : (v : Party) (k : ℕ) (list : Steps T) (slots : SlotWords) (ds : ThreeTapes) → IsWellFormed accepts list → SlotsFit list.first slots → TapesFit list ds
      → shown_rest accepts answer v (starting list.first) (before_steps slots) (take k list.steps) ds ≡ seen answer v (front k list) slots ds
  front_shown v k list slots ds well h i =
      let a = front k list in
      shown_seen accepts answer v (starting list.first) (take k list.steps) (before_steps slots) (opening slots) ds
      (λ j. opened (front j a) slots ds law (front_fine accepts j a (front_fine accepts k list well)) (fits_again j a slots ds (front_fits k list slots ds h i)))

  one_shown : (v : Party) (l : Layout) (m : Machine) (o : Open) (ss : List (Step T)) (ds : ThreeTapes) → Opens m o → shown_rest accepts answer v l m (take 1 ss) ds ≡ seen_from answer v l o (take 1 ss) ds
  one_shown v l m o [] ds h = refl
  one_shown v l m o (s ∷ ss) ds h = ap (λ x. x ++ []) (going_seen v l m o s (taken (needs_of l s) ds) h)

  pub ended_alike : (v : Party) (list : Steps T) (one other : SlotWords) (ds : ThreeTapes) → IsWellFormed accepts list → SlotsFit list.first one → SlotsFit list.first other → TapesFit list ds
      → ShowAlike accepts answer v (starting list.first) (before_steps one) (before_steps other) list.steps ds
      → AreAlike (seen answer v list one ds) (seen answer v list other (twin_tapes answer v list one other ds))
  ended_alike v list one other ds well h i left alike =
      let es = twin_tapes answer v list one other ds in
      let fits = twin_fits accepts answer facts holds v list one other ds well h i left in
      alike_by _ _ (seen answer v list one ds) (seen answer v list other es) (shows_are_seen accepts answer opened law v list one ds well h left)
      (shows_are_seen accepts answer opened law v list other es well i fits) alike

  ended_apart : (v : Party) (list : Steps T) (one other : SlotWords) (ds : ThreeTapes) (k : ℕ) (first second : Seen) (rows others : List (List ℕ)) → IsWellFormed accepts list
      → SlotsFit list.first one → SlotsFit list.first other → TapesFit list ds → AreApart accepts answer v (starting list.first) (before_steps one) (before_steps other) list.steps ds k first second
      → rows ≡ rows_seen first → others ≡ rows_seen second → IsApart answer v list one other ds k rows others
  ended_apart v list one other ds k first second rows others well h i left a e f =
      let es = twin_tapes answer v list one other ds in
      let fits = twin_fits accepts answer facts holds v list one other ds well h i left in
      let l = grown_by (starting list.first) (take k list.steps) in
      let fine = front_fine accepts k list well in
      let more = drop k list.steps in
      let opens1 = opened (front k list) one ds law fine (front_fits k list one ds h left) in
      let opens2 = opened (front k list) other es law fine (front_fits k list other es i fits) in
      record {
        before =
            alike_by _ _ (seen answer v (front k list) one ds) (seen answer v (front k list) other es)
            (front_shown v k list one ds well h left) (front_shown v k list other es well i fits) a.before_it;
        first = first;
        second = second;
        first_is = sym (one_shown v l (joint_of answer (front k list) one ds) (open_of answer (front k list) one ds) more (rest_after tape_cut (starting list.first) (take k list.steps) ds) opens1) ∙ a.first_is;
        second_is = sym (one_shown v l (joint_of answer (front k list) other es) (open_of answer (front k list) other es) more (rest_after tape_cut (starting list.first) (take k list.steps) es) opens2) ∙ a.second_is;
        differ = a.differ;
        first_rows = e;
        second_rows = f;
      }

  -- the next step tells the worlds apart
  here_apart : (v : Party) (l : Layout) (s : Step T) (ss : List (Step T)) (x y : Machine) (ds : ThreeTapes) (rows others : List (List ℕ)) → x.stop ≡ false → y.stop ≡ false
      → (h : IsApartHere v l s x y rows others) → AreApart accepts answer v l x y (s ∷ ss) ds 0 h.first h.second
  here_apart v l s ss x y ds rows others e f h = record {
    before_it = none;
    first_is = ap (λ b. (if b then [] else shows v l x s) ++ []) e ∙ ap (λ z. z ++ []) h.first_is;
    second_is = ap (λ b. (if b then [] else shows v l y s) ++ []) f ∙ ap (λ z. z ++ []) h.second_is;
    differ = h.differ;
  }

  pub step_fault : (v : Party) (list : Steps T) (one other : SlotWords) (ds : ThreeTapes) (k : ℕ) (s : Step T) (ss : List (Step T)) (x y : Machine) (left : ThreeTapes) (made : List _)
      (fault : TwinFault) → IsWellFormed accepts list → SlotsFit list.first one → SlotsFit list.first other → TapesFit list ds
      → (a : IsAhead accepts answer v (starting list.first) (before_steps one) (before_steps other) list.steps ds k (s ∷ ss) x y left made)
      → IsStepFault v a.layout s x y k fault → IsTwinFault answer v list one other ds fault
  step_fault v list one other ds k s ss x y left made Memory well h i fit a e = tt
  step_fault v list one other ds k s ss x y left made (NotAligned step rows others) well h i fit a e =
      let b = here_apart v a.layout s ss x y left rows others a.goes.one_goes a.goes.other_goes e.1 in
      let n : k + 0 ≡ step = let z : k + 0 ≡ k = omega arith in z ∙ sym e.0 in
      let whole = subst (λ j. AreApart accepts answer v (starting list.first) (before_steps one) (before_steps other) list.steps ds j e.1.first e.1.second) n (a.apart 0 e.1.first e.1.second b) in
      ended_apart v list one other ds step e.1.first e.1.second rows others well h i fit whole e.1.first_rows e.1.second_rows
