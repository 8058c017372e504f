-- What the machine shows is what is seen of the open values, at each front of a list.
use Rattle.std.proofs.Common.{◌≡◌, ℕ, zero, suc, Bool, List, [], ◌∷◌, ◌++◌, take, drop, refl, sym, subst, ap, ◌∙◌}
use Rattle.std.proofs.lemmas.List.{take-append-drop}
use Rattle.std.specs.Prelude.{if◌then◌else◌}
use Rattle.lanes.specs.declared.party.Party.{Party}
use Rattle.lanes.specs.Three.{at, opened}
use Rattle.tapes.specs.declared.draw.Need.{Need}
use Rattle.tapes.specs.declared.draw.Draw.{Draw}
use Rattle.tapes.specs.Needs.{FitsNeeds}
use Rattle.tapes.specs.RowLaws.{rows_across}
use Rattle.step_lists.specs.declared.step.Shape.{Shape}
use Rattle.step_lists.specs.declared.step.Step.{Step}
use Rattle.step_lists.specs.declared.step.Step.TheVariants.{Const, Lin, And, Share, Reveal, Steer, Tell, Work, Flag}
use Rattle.step_lists.specs.Layout.{Layout, Steps, party_of, grown, starting, rows_moved}
use Rattle.step_lists.specs.Rules.{IsWellFormed, AreFine}
use Rattle.step_lists.specs.Shapes.{IsLawful}
use Rattle.step_lists.specs.Draws.{ThreeTapes, nothing, needs, needs_of, taken, dropped}
use Rattle.step_lists.specs.Run.{run, outs, tape_cut}
use Rattle.step_lists.specs.Open.{SlotWords, Open, item, register, open_going, opening}
use Rattle.step_lists.specs.Seen.{Rows, Told, Flagged, shown_of, same_party, only, seen_step, seen_going, seen_from, seen}
use Rattle.step_lists.specs.Machine.{Machine, shares, before_steps, joint_going}
use Rattle.step_lists.specs.Possible.{FitsFront, SlotsFit, Fits, TapesFit}
use Rattle.step_lists.specs.Prefixes.{needs_first}
use Rattle.twin.specs.Apart.{front}
use Rattle.twin.proofs.Lists.{same_maps, item_mapped}
use Rattle.twin.proofs.Steps.{shows}
use Rattle.twin.proofs.PairRun.{shows_going}
use Rattle.joint_machine.specs.Opens.{Opens, SharesAreOpened}

-- ---- a step

shows_seen : {T : Type 0} (v : Party) (l : Layout) (m : Machine) (o : Open) (s : Step T) → Opens m o → shows v l m s ≡ seen_step v l o s
shows_seen v l m o (Const words) h = refl
shows_seen v l m o (Lin op) h = refl
shows_seen v l m o (And left right) h = refl
shows_seen v l m o (Share p s) h = refl
shows_seen v l m o (Reveal to moved shown) h =
    ap (λ xs. only (same_party v (party_of to)) (Rows (rows_across (rows_moved l moved) (shown_of xs shown))))
    (same_maps (λ r. opened (shares m r)) (register o) (λ r. item_mapped opened m.registers r nothing ∙ ap (λ xs. item xs r) h.registers) moved)
shows_seen v l m o (Steer by s moved) h = refl
shows_seen v l m o (Tell source target s) h = ap (λ xs. only (same_party v (party_of target)) (Told (item (at (party_of source) xs) s))) h.slots
shows_seen v l m o (Work p task takes gives) h = refl
shows_seen v l m o (Flag p s) h = ap (λ xs. Flagged (item (at (party_of p) xs) s) ∷ []) h.slots

pub going_seen : {T : Type 0} (v : Party) (l : Layout) (m : Machine) (o : Open) (s : Step T) (ds : ThreeTapes) → Opens m o → shows_going v l m s ds ≡ seen_going v l o s ds
going_seen v l m o s ds h = ap (λ b. if b then [] else shows v l m s) h.stop ∙ ap (λ x. if o.stop then [] else x) (shows_seen v l m o s h)

-- ---- fronts

fine_front : {T : Type 0} (accepts : T → List Shape → List Shape → Bool) (k : ℕ) (l : Layout) (ss : List (Step T)) → AreFine accepts l ss → AreFine accepts l (take k ss)
fine_front accepts zero l ss h = tt
fine_front accepts (suc k) l [] h = tt
fine_front accepts (suc k) l (s ∷ ss) h = (h.0, fine_front accepts k (grown l s) ss h.1)

fits_front : (ns : List Need) (ds : List Draw) → FitsNeeds ns ds → FitsFront ns ds
fits_front [] ds h = tt
fits_front (n ∷ ns) [] h = absurd h
fits_front (n ∷ ns) (d ∷ ds) h = (h.0, fits_front ns ds h.1)

pub front_fits : {T : Type 0} (k : ℕ) (list : Steps T) (slots : SlotWords) (ds : ThreeTapes) → SlotsFit list.first slots → TapesFit list ds → Fits (front k list) slots ds
front_fits k list slots ds h i = record { slots_fit = h; tapes_fit = fit } where
  fit : (p : Party) → FitsFront (needs p (starting list.first) (take k list.steps)) (at p ds)
  fit p =
      needs_first p (starting list.first) (take k list.steps) (drop k list.steps) ds
      (subst (λ ss. FitsFront (needs p (starting list.first) ss) (at p ds)) (sym (take-append-drop k list.steps))
      (fits_front (needs p (starting list.first) list.steps) (at p ds) (i p)))

pub front_fine : {T : Type 0} (accepts : T → List Shape → List Shape → Bool) (k : ℕ) (list : Steps T) → IsWellFormed accepts list → IsWellFormed accepts (front k list)
front_fine accepts k list h = record { small = h.small; fine = fine_front accepts k (starting list.first) list.steps h.fine }

module _ {T : Type 0} (accepts : T → List Shape → List Shape → Bool) (answer : T → List (List ℕ) → List (List ℕ)) where
  -- where the machine opens to the open values at each front
  pub shown_seen : (v : Party) (l : Layout) (ss : List (Step T)) (m : Machine) (o : Open) (ds : ThreeTapes)
      → ((k : ℕ) → Opens (run (joint_going answer) tape_cut l m (take k ss) ds) (run (open_going answer) tape_cut l o (take k ss) ds))
      → outs (joint_going answer) (shows_going v) tape_cut l m ss ds ≡ seen_from answer v l o ss ds
  shown_seen v l [] m o ds h = refl
  shown_seen v l (s ∷ ss) m o ds h =
      let d = taken (needs_of l s) ds in
      ap (λ x. x ++ outs (joint_going answer) (shows_going v) tape_cut (grown l s) (joint_going answer l m s d) ss (dropped (needs_of l s) ds)) (going_seen v l m o s d (h 0))
      ∙ ap (λ x. seen_going v l o s d ++ x) (shown_seen v (grown l s) ss (joint_going answer l m s d) (open_going answer l o s d) (dropped (needs_of l s) ds) (λ k. h (suc k)))

  pub shows_are_seen : SharesAreOpened accepts answer → IsLawful accepts answer → (v : Party) (list : Steps T) (slots : SlotWords) (ds : ThreeTapes) → IsWellFormed accepts list
      → SlotsFit list.first slots → TapesFit list ds
      → outs (joint_going answer) (shows_going v) tape_cut (starting list.first) (before_steps slots) list.steps ds ≡ seen answer v list slots ds
  shows_are_seen opened law v list slots ds well h i =
      shown_seen v (starting list.first) list.steps (before_steps slots) (opening slots) ds
      (λ k. opened (front k list) slots ds law (front_fine accepts k list well) (front_fits k list slots ds h i))
