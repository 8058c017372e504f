-- The first steps of a list, and each step that the machine comes to.
use Rattle.std.proofs.Common.{◌≡◌, ℕ, zero, suc, Bool, true, false, Some, None, List, [], ◌∷◌, ◌++◌, length, map, take, drop, refl, sym, subst, ap, ◌∙◌}
use Rattle.std.specs.Prelude.{slice_get, if◌then◌else◌}
use Rattle.std.proofs.lemmas.List.{take-append-drop, take-take, take-map}
use Rattle.lanes.specs.declared.party.Party.TheVariants.{First}
use Rattle.lanes.specs.Three.{at, each}
use Rattle.lanes.specs.Items.{LaneLengths}
use Rattle.tapes.specs.Laws.{OrdersAreClosed}
use Rattle.step_lists.specs.declared.step.Shape.{Shape}
use Rattle.step_lists.specs.declared.step.Step.{Step}
use Rattle.step_lists.specs.Layout.{Steps, Layout, starting, grown, grown_by, layout_of}
use Rattle.step_lists.specs.Rules.{AreFine}
use Rattle.step_lists.specs.Draws.{ThreeTapes, needs, needs_of, taken, dropped}
use Rattle.step_lists.specs.Run.{tape_cut, rest_after}
use Rattle.step_lists.specs.Open.{SlotWords}
use Rattle.step_lists.specs.Phases.{no_words, behind_on}
use Rattle.step_lists.specs.Machine.{Machine, machine_step, step_words, delivered, joint_going, joint_of, before_steps}
use Rattle.step_lists.specs.Possible.{FitsFront}
use Rattle.step_lists.specs.Prefixes.{needs_first}
use Rattle.step_lists.specs.RunLaws.{run-append}
use Rattle.step_lists.specs.Part.{stage_sends, stage_takes, all_sent, takes_bad_order}
use Rattle.joint_machine.specs.Fitting.{IsFitting, StepsFit}
use Rattle.party_laws.specs.InMachine.{received_by, part_in}
use Rattle.party_laws.specs.StageWords.{StagesHold, FrontsFit, FrontsGrow, front, draws_at, given_with, stage_words}
use Rattle.party_laws.proofs.Lists.{true_apart, zip_long}
use Rattle.party_laws.proofs.Cuts.{words_of_stages, all_sent_of, all_counted, front_counted}
use Rattle.party_laws.proofs.AllSteps.{step_cut}
use Rattle.party_laws.proofs.PartialSteps.{step_sends, step_order}
use Rattle.party_laws.proofs.RunParts.{AreLeft, left_first, left_behind, joint_run, later, links_run, step_links, stopped_machine, is_ready}

none_apart : {A : Type 0} {x : A} → None ≡ Some x → ⊥
none_apart e = cc

same_some : {A : Type 0} {x y : A} → Some x ≡ Some y → x ≡ y
same_some e = cc

module _ {T : Type 0} (accepts : T → List Shape → List Shape → Bool) (answer : T → List (List ℕ) → List (List ℕ)) where
  -- ---- the first steps

  fine_front : (k : ℕ) (l : Layout) (ss : List (Step T)) → AreFine accepts l ss → AreFine accepts l (take k ss)
  fine_front zero l ss h = tt
  fine_front (suc k) l [] h = tt
  fine_front (suc k) l (s ∷ ss) h = (h.0, fine_front k (grown l s) ss h.1)

  left_front : (k : ℕ) (l : Layout) (ss : List (Step T)) (ds : ThreeTapes) → AreLeft l ss ds → AreLeft l (take k ss) ds
  left_front k l ss ds h p =
      needs_first p l (take k ss) (drop k ss) ds (subst (λ xs. FitsFront (needs p l xs) (at p ds)) (sym (take-append-drop k ss)) (h p))

  pub fronts_fit : FrontsFit accepts
  fronts_fit = record {
    fine = λ k list h. record { small = h.small; fine = fine_front k (starting list.first) list.steps h.fine };
    fits = λ k list slots ds h. record { slots_fit = h.slots_fit; tapes_fit = left_front k (starting list.first) list.steps ds h.tapes_fit };
  }

  -- ---- the machine behind them

  module _ (lengths : LaneLengths) (closed : OrdersAreClosed) (fit : StepsFit accepts answer) where
    -- what is known behind some first steps
    pub record Reaches (l : Layout) (ss : List (Step T)) (m : Machine) (ds : ThreeTapes) : Type 0 where
      pub fine : AreFine accepts l ss
      pub left : AreLeft l ss ds
      pub fits : m.stop ≡ false → IsFitting l m

    abbrev next_machine : Layout → Step T → Machine → ThreeTapes → Bool → Machine
    next_machine l s m d b = if b then m else delivered (step_words l m s d) (machine_step answer l m s d)

    going_on : (l : Layout) (s : Step T) (ss : List (Step T)) (m : Machine) (ds : ThreeTapes) → Reaches l (s ∷ ss) m ds
        → Reaches (grown l s) ss (joint_going answer l m s (taken (needs_of l s) ds)) (dropped (needs_of l s) ds)
    going_on l s ss m ds h = record { fine = h.fine.1; left = left_behind l s ss ds h.left; fits = by m.stop refl } where
      by : (b : Bool) → m.stop ≡ b → (next_machine l s m (taken (needs_of l s) ds) b).stop ≡ false → IsFitting (grown l s) (next_machine l s m (taken (needs_of l s) ds) b)
      by true e f = absurd (true_apart (sym f ∙ e))
      by false e f = fit.stepped l m s (taken (needs_of l s) ds) h.fine.0 (left_first l s ss ds h.left) (h.fits e)

    pub reaches : (k : ℕ) (l : Layout) (ss : List (Step T)) (m : Machine) (ds : ThreeTapes) → Reaches l ss m ds
        → Reaches (grown_by l (take k ss)) (drop k ss) (joint_run accepts answer l m (take k ss) ds) (rest_after tape_cut l (take k ss) ds)
    reaches zero l ss m ds h = h
    reaches (suc k) l [] m ds h = h
    reaches (suc k) l (s ∷ ss) m ds h =
        reaches k (grown l s) ss (joint_going answer l m s (taken (needs_of l s) ds)) (dropped (needs_of l s) ds) (going_on l s ss m ds h)

    step_there : (k : ℕ) (ss : List (Step T)) (s : Step T) → slice_get ss k ≡ Some s → drop k ss ≡ s ∷ drop (suc k) ss
    step_there zero [] s e = absurd (none_apart e)
    step_there (suc k) [] s e = absurd (none_apart e)
    step_there zero (x ∷ ss) s e = ap (λ y. y ∷ ss) (same_some e)
    step_there (suc k) (x ∷ ss) s e = step_there k ss s e

    pub stages_hold : StagesHold accepts answer
    stages_hold v list slots ds k s well fits e going =
        let l0 = starting list.first in
        let start : Reaches l0 list.steps (before_steps slots) ds = record { fine = well.fine; left = fits.tapes_fit; fits = λ f. fit.starts list.first slots fits.slots_fit } in
        let at_k = reaches k l0 list.steps (before_steps slots) ds start in
        let l = layout_of (front k list) in
        let m = joint_of answer (front k list) slots ds in
        let d = draws_at k list s ds in
        let there = step_there k list.steps s e in
        let ss = drop (suc k) list.steps in
        let fine = subst (AreFine accepts l) there at_k.fine in
        let left = subst (λ xs. AreLeft l xs (rest_after tape_cut l0 (take k list.steps) ds)) there at_k.left in
        let ws = stage_words l m s d in
        let ready = is_ready accepts answer lengths closed fit l m s d fine.0 (left_first l s ss (rest_after tape_cut l0 (take k list.steps) ds) left) (at_k.fits going) in
        let cut = step_cut accepts answer lengths closed v l m s d ready in
        let x = at v m.links in
        let t = each length (received_by v m.links) in
        record {
          whole = words_of_stages l m s d;
          stages = zip_long _ ws (stage_takes v l s) (cut.count First);
          counts = λ q b. all_counted v q (take b ws) (take b (stage_takes v l s)) (front_counted v q b ws (stage_takes v l s) (cut.count q));
          sends = λ i b words more few f there.
              let part = stage_sends v l (part_in v m) s (given_with v d words) in
              let same : take (suc i) part ≡ take (suc i) (map (at v) ws) =
              step_sends v l (part_in v m) s d words more i there
              ∙ (ap (λ r. take (suc i) (stage_sends v l (part_in v m) s (given_with v d r))) (sym f) ∙ ap (take (suc i)) (cut.sent x t)) in
              ap all_sent
              (sym (take-take b (suc i) part few) ∙ (ap (take b) same ∙ (take-take b (suc i) (map (at v) ws) few ∙ take-map (at v) b ws)))
              ∙ all_sent_of v (take b ws);
          order = λ words more f. step_order v l s d words more (ap (λ r. takes_bad_order v l s (given_with v d r)) (sym f) ∙ cut.order);
        }

  -- ---- machines behind fronts

  front_is : (k : ℕ) (list : Steps T) (slots : SlotWords) (ds : ThreeTapes)
      → joint_of answer list slots ds
      ≡ joint_run accepts answer (layout_of (front k list)) (joint_of answer (front k list) slots ds) (drop k list.steps) (rest_after tape_cut (starting list.first) (take k list.steps) ds)
  front_is k list slots ds =
      ap (λ ss. joint_run accepts answer (starting list.first) (before_steps slots) ss ds) (sym (take-append-drop k list.steps))
      ∙ run-append (joint_going answer) tape_cut (starting list.first) (before_steps slots) (take k list.steps) (drop k list.steps) ds

  take_next : (k : ℕ) (ss : List (Step T)) (s : Step T) → slice_get ss k ≡ Some s → take (suc k) ss ≡ take k ss ++ s ∷ []
  take_next zero [] s e = absurd (none_apart e)
  take_next (suc k) [] s e = absurd (none_apart e)
  take_next zero (x ∷ ss) s e = ap (λ y. y ∷ []) (same_some e)
  take_next (suc k) (x ∷ ss) s e = ap (λ t. x ∷ t) (take_next k ss s e)

  pub fronts_grow : FrontsGrow answer
  fronts_grow = record {
    links = λ k list slots ds.
        let m = joint_of answer (front k list) slots ds in
        let rest = rest_after tape_cut (starting list.first) (take k list.steps) ds in (
          later accepts answer (layout_of (front k list)) m (drop k list.steps) rest,
          ap (λ x. x.links) (front_is k list slots ds) ∙ links_run accepts answer (layout_of (front k list)) m (drop k list.steps) rest,
        );
    step = λ k list slots ds s e going.
        let l0 = starting list.first in
        let l = layout_of (front k list) in
        let m = joint_of answer (front k list) slots ds in
        let rest = rest_after tape_cut l0 (take k list.steps) ds in
        let d = taken (needs_of l s) rest in
        let w = step_words l m s d in
        let runs : joint_of answer (front (suc k) list) slots ds ≡ joint_going answer l m s d =
        ap (λ ss. joint_run accepts answer l0 (before_steps slots) ss ds) (take_next k list.steps s e)
        ∙ run-append (joint_going answer) tape_cut l0 (before_steps slots) (take k list.steps) (s ∷ []) ds in
        ap (λ x. x.links) runs
        ∙ (step_links accepts answer l m s d ∙ ap (λ b. behind_on m.links (if b then no_words else w)) going);
    stopped = λ k list slots ds e.
        front_is k list slots ds
        ∙ stopped_machine accepts answer (layout_of (front k list)) (joint_of answer (front k list) slots ds) (drop k list.steps)
        (rest_after tape_cut (starting list.first) (take k list.steps) ds) e;
  }
