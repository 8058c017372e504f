-- The laws of the twin, from what holds of each step.
use Rattle.std.proofs.Common.{◌≡◌, ℕ, Bool, List, [], ◌∷◌, map, length, refl, sym, subst, ap, ◌∙◌, arith}
use Rattle.std.specs.List.{AllByRecursion}
use Rattle.lanes.specs.declared.party.Party.{Party}
use Rattle.lanes.specs.declared.party.Party.TheVariants.{First, Second, Third}
use Rattle.lanes.specs.declared.three.Three.{Three}
use Rattle.lanes.specs.Party.{before}
use Rattle.lanes.specs.Three.{at, put}
use Rattle.lanes.specs.Word.{AreWords}
use Rattle.step_lists.specs.declared.step.Shape.{Shape}
use Rattle.step_lists.specs.declared.step.Shape.TheVariants as shapes
use Rattle.step_lists.specs.declared.step.Step.{Step}
use Rattle.step_lists.specs.Layout.{starting}
use Rattle.step_lists.specs.Shapes.{HaveShapes, IsLawful}
use Rattle.step_lists.specs.Open.{SlotWords}
use Rattle.step_lists.specs.Possible.{SlotsFit}
use Rattle.step_lists.specs.Seen.{Seen, AreAlike, seen}
use Rattle.step_lists.specs.Machine.{View, view_of, before_steps, joint_of}
use Rattle.step_lists.specs.Twin.{twin_tape, twin_tapes}
use Rattle.twin.specs.Fits.{TwinFits}
use Rattle.twin.specs.Pairs.{TwinPairs}
use Rattle.joint_machine.specs.Opens.{SharesAreOpened}
use Rattle.twin.proofs.Facts.{Facts}
use Rattle.twin.proofs.Steps.{StepHolds}
use Rattle.twin.proofs.Puts.{put_at, put_put, own_stays, next_stays}
use Rattle.twin.proofs.FitRun.{FitsGoing, left_twin}
use Rattle.twin.proofs.PairRun.{SameAll, pair_run}
use Rattle.twin.proofs.Shown.{shows_are_seen}

pub starts_fit : (first : Three (List ℕ)) (slots : SlotWords) → SlotsFit first slots → FitsGoing (starting first) (before_steps slots)
starts_fit first slots h e = record { registers = tt; slots = slots_of } where
  shapes_of : (ns : List ℕ) (xs : List (List ℕ)) → map length xs ≡ ns → AllByRecursion AreWords xs → HaveShapes (map shapes.Words ns) xs
  shapes_of [] [] e h = tt
  shapes_of [] (x ∷ xs) e h = absurd (let f = ap length e in omega arith)
  shapes_of (n ∷ ns) [] e h = absurd (let f = ap length e in omega arith)
  shapes_of (n ∷ ns) (x ∷ xs) e h = (record { long = head e; below = h.0 }, shapes_of ns xs (tail e) h.1) where
    head : length x ∷ map length xs ≡ n ∷ ns → length x ≡ n
    head e = cc

    tail : length x ∷ map length xs ≡ n ∷ ns → map length xs ≡ ns
    tail e = cc

  slots_of : (p : Party) → HaveShapes (at p (starting first).slots) (at p slots)
  slots_of First = shapes_of first.first slots.first (h.long First) (h.below First)
  slots_of Second = shapes_of first.second slots.second (h.long Second) (h.below Second)
  slots_of Third = shapes_of first.third slots.third (h.long Third) (h.below Third)

-- before the first step
starts_same : (v : Party) (one other : SlotWords) → at v one ≡ at v other → SameAll v (before_steps one) (before_steps other)
starts_same v one other e = record {
  here = record { registers = tt; slots = e; flags = refl; stop = refl };
  words = record { from_next = refl; from_before = refl };
}

alike_by : (a b c d : List Seen) → a ≡ c → b ≡ d → AreAlike c d → AreAlike a b
alike_by a b c d e f h = subst (λ x. AreAlike x b) (sym e) (subst (AreAlike c) (sym f) h)

same_view : (v : Party) (a b : View) → a.from_next ≡ b.from_next → a.from_before ≡ b.from_before → a ≡ b
same_view v a b e f = ap (λ w. record a { from_next = w }) e ∙ ap (λ w. record b { from_before = w }) f

module _ {T : Type 0} (accepts : T → List Shape → List Shape → Bool) (answer : T → List (List ℕ) → List (List ℕ)) (facts : Facts)
    (holds : (s : Step T) → StepHolds accepts answer s) where
  pub twin_fits : TwinFits accepts answer
  twin_fits v list one other ds well h i left =
      left_twin accepts answer facts holds v (starting list.first) list.steps (before_steps one) (before_steps other) ds well.fine left
      (starts_fit list.first one h) (starts_fit list.first other i)

  pub twin_pairs : SharesAreOpened accepts answer → IsLawful accepts answer → TwinPairs accepts answer
  twin_pairs opened law v list one other ds well worlds left alike =
      let es = twin_tapes answer v list one other ds in
      let fits = twin_fits v list one other ds well worlds.one_fits worlds.other_fits left in
      let e1 = shows_are_seen accepts answer opened law v list one ds well worlds.one_fits left in
      let e2 = shows_are_seen accepts answer opened law v list other es well worlds.other_fits fits in
      let is = pair_run accepts answer facts holds v (starting list.first) list.steps (before_steps one) (before_steps other) ds well.fine left
      (starts_fit list.first one worlds.one_fits) (starts_fit list.first other worlds.other_fits) (starts_same v one other worlds.viewer)
      (alike_by _ _ (seen answer v list one ds) (seen answer v list other es) e1 e2 alike) in
      record {
        look = record {
          own_tape = own_stays v (twin_tape answer v list one other ds) ds;
          following_tape = next_stays v (twin_tape answer v list one other ds) ds;
          view =
              same_view v (view_of v (joint_of answer list other es)) (view_of v (joint_of answer list one ds))
              (sym is.same.words.from_next) (sym is.same.words.from_before);
          slots = sym is.same.here.slots;
          flags = sym is.same.here.flags;
          stop = sym is.same.here.stop;
        };
        back =
            ap (λ t. put (before v) t es) is.back
            ∙ (put_put (before v) (at (before v) ds) (twin_tape answer v list one other ds) ds ∙ put_at (before v) ds);
      }
