-- The run in the code beside the run of the definition, by the steps that are still to come.
use Rattle.std.proofs.Common.{◌≡◌, ℕ, suc, ◌+◌, ◌<◌, ◌≤◌, Bool, true, false, List, [], ◌∷◌, length, drop, get_or, refl, sym, subst, ◌∙◌, ap, arith}
use Rattle.std.proofs.lemmas.List.{drop_more}
use Rattle.tapes.specs.declared.draw.Draw.{Draw}
use Rattle.tapes.specs.declared.draw.Need.{Need}
use Rattle.std.specs.Prelude.{◌==◌, slice_index, if◌then◌else◌}
use Rattle.lanes.specs.declared.party.Party.{Party}
use Rattle.lanes.specs.Three.{at}
use Rattle.tapes.specs.NeedLaws.{FitsOfParts}
use Rattle.tapes.specs.Needs.{FitsNeeds}
use Rattle.step_lists.specs.declared.step.Shape.{Shape}
use Rattle.step_lists.specs.declared.step.Step.{Step}
use Rattle.step_lists.specs.declared.step.Step.TheVariants.{Const, Lin, And, Share, Reveal, Steer, Tell, Work, Flag}
use Rattle.step_lists.specs.Layout.{Layout, Steps, party_of, grown, starting}
use Rattle.step_lists.specs.Rules.{IsWellFormed, AreFine, fits_layout, is_small}
use Rattle.step_lists.specs.Shapes.{HaveShapes, IsLawful}
use Rattle.step_lists.specs.Draws.{ThreeTapes, needs, needs_of, taken, dropped}
use Rattle.step_lists.specs.Run.{run, tape_cut}
use Rattle.step_lists.specs.Open.{SlotWords, Open, open_step, opening}
use Rattle.step_lists.specs.Machine.{Machine, slot_of, machine_step, step_words, delivered, before_steps, joint_going, joint_of}
use Rattle.step_lists.specs.Possible.{FitsFront, SlotsFit, TapesFit}
use Rattle.joint_machine.specs.Stepping.{IsReady, IsStepped}
use Rattle.joint_machine.proofs.Facts.{Facts}
use Rattle.joint_machine.proofs.Listing.{both}
use Rattle.joint_machine.proofs.Drawn.{at_taken, at_dropped}
use Rattle.joint_machine.proofs.SharesOpened.{Kept, step_kept, handed, starts_fit}

flag_few : (m : Machine) (n : ℕ) (b : Bool) → m.flags ≤ n → (if b then record m { flags = suc m.flags } else record m { stop = true }).flags ≤ suc n
flag_few m n true h = omega (arith, h)
flag_few m n false h = omega (arith, h)

module _ {T : Type 0} (accepts : T → List Shape → List Shape → Bool) (answer : T → List (List ℕ) → List (List ℕ)) where
  -- before a stop
  pub record GoesOn (l : Layout) (ss : List (Step T)) (m : Machine) (ds : ThreeTapes) : Type 0 where
    pub fine : AreFine accepts l ss
    pub fits : (p : Party) → FitsNeeds (needs p l ss) (at p ds)
    pub few : m.flags ≤ l.flags
    pub values : Open
    pub kept : Kept l m values

  -- the machine and what is left of the tapes, with these steps to come, where the whole run gives this
  pub record IsAhead (whole : Machine) (ss : List (Step T)) (m : Machine) (left : ThreeTapes) : Type 0 where
    pub layout : Layout
    pub draws : ThreeTapes
    pub same : whole ≡ run (joint_going answer) tape_cut layout m ss draws
    pub left_is : m.stop ≡ false → draws ≡ left
    pub going : m.stop ≡ false → GoesOn layout ss m left

  pub few_behind : (l : Layout) (m : Machine) (s : Step T) (ds : ThreeTapes) → m.flags ≤ l.flags → (machine_step answer l m s ds).flags ≤ (grown l s).flags
  few_behind l m (Const words) ds h = h
  few_behind l m (Lin op) ds h = h
  few_behind l m (And left right) ds h = h
  few_behind l m (Share p s) ds h = h
  few_behind l m (Reveal to moved shown) ds h = h
  few_behind l m (Steer by s moved) ds h = h
  few_behind l m (Tell source target s) ds h = h
  few_behind l m (Work p task takes gives) ds h = h
  few_behind l m (Flag p s) ds h = flag_few m l.flags (slice_index (slot_of m (party_of p) s) 0 == 0) h

  ready_of : (l : Layout) (m : Machine) (s : Step T) (ss : List (Step T)) (x : ThreeTapes) → GoesOn l (s ∷ ss) m x → IsReady accepts l s m x
  ready_of l m s ss x g = record {
    fine = g.fine.0;
    long = g.kept.long;
    slots = λ p. subst (λ xs. HaveShapes (at p l.slots) (at p xs)) (sym g.kept.opens.slots) (g.kept.fits.slots p);
    few = g.few;
    draws = λ p. (needs p (grown l s) ss, g.fits p);
  }

  pub ahead_ready : (whole m : Machine) (s : Step T) (ss : List (Step T)) (x : ThreeTapes) → IsAhead whole (s ∷ ss) m x → m.stop ≡ false
      → (l : Layout) × IsReady accepts l s m x
  ahead_ready whole m s ss x h e = (h.layout, ready_of h.layout m s ss x (h.going e))

  pub ahead_step : Facts → FitsOfParts → IsLawful accepts answer → (whole m new : Machine) (s : Step T) (ss : List (Step T)) (x y : ThreeTapes) → IsAhead whole (s ∷ ss) m x
      → m.stop ≡ false → ((l : Layout) → IsReady accepts l s m x → IsStepped answer l s m x new y) → IsAhead whole ss new y
  ahead_step facts parts law whole m new s ss x y h e step =
      let l = h.layout in
      let g = h.going e in
      let is = step l (ready_of l m s ss x g) in
      let d = taken (needs_of l s) x in
      let go : joint_going answer l m s (taken (needs_of l s) h.draws) ≡ new =
      ap (λ b. if b then m else delivered (step_words l m s (taken (needs_of l s) h.draws)) (machine_step answer l m s (taken (needs_of l s) h.draws))) e
      ∙ (ap (λ ds. delivered (step_words l m s (taken (needs_of l s) ds)) (machine_step answer l m s (taken (needs_of l s) ds))) (h.left_is e) ∙ sym is.machine) in
      let may = both (fits_layout accepts l s) (is_small (grown l s)) g.fine.0 in
      let drawn = λ (p : Party). subst (FitsNeeds (at p (needs_of l s))) (sym (at_taken p (needs_of l s) x)) (parts.first (at p (needs_of l s)) (needs p (grown l s) ss) (at p x) (g.fits p)) in
      let rest = λ (p : Party). subst (FitsNeeds (needs p (grown l s) ss)) (sym (at_dropped p (needs_of l s) x)) (parts.behind (at p (needs_of l s)) (needs p (grown l s) ss) (at p x) (g.fits p)) in
      let kept = handed accepts answer (step_words l m s d) (grown l s) (machine_step answer l m s d) (open_step answer g.values s d)
      (step_kept accepts answer facts law l m g.values s d may.0 drawn g.kept) in
      record {
        layout = grown l s;
        draws = dropped (needs_of l s) h.draws;
        same = h.same ∙ ap (λ a. run (joint_going answer) tape_cut (grown l s) a ss (dropped (needs_of l s) h.draws)) go;
        left_is = λ f. ap (dropped (needs_of l s)) (h.left_is e) ∙ sym is.left;
        going = λ f. record {
          fine = g.fine.1;
          fits = λ p. subst (λ ds. FitsNeeds (needs p (grown l s) ss) (at p ds)) (sym is.left) (rest p);
          few = subst (λ m. m.flags ≤ (grown l s).flags) (sym is.machine) (few_behind l m s d g.few);
          values = open_step answer g.values s d;
          kept = subst (λ m. Kept (grown l s) m (open_step answer g.values s d)) (sym is.machine) kept;
        };
      }

  pub ahead_stopped : (whole m : Machine) (s : Step T) (ss : List (Step T)) (x : ThreeTapes) → IsAhead whole (s ∷ ss) m x → m.stop ≡ true → IsAhead whole ss m x
  ahead_stopped whole m s ss x h e =
      let l = h.layout in
      let stays : joint_going answer l m s (taken (needs_of l s) h.draws) ≡ m =
      ap (λ b. if b then m else delivered (step_words l m s (taken (needs_of l s) h.draws)) (machine_step answer l m s (taken (needs_of l s) h.draws))) e in
      record {
        layout = grown l s;
        draws = dropped (needs_of l s) h.draws;
        same = h.same ∙ ap (λ a. run (joint_going answer) tape_cut (grown l s) a ss (dropped (needs_of l s) h.draws)) stays;
        left_is = λ f. absurd (apart f);
        going = λ f. absurd (apart f);
      } where
        apart : m.stop ≡ false → ⊥
        apart f = let g : true ≡ false = sym e ∙ f in cc

  pub ahead_start : (list : Steps T) (slots : SlotWords) (ds : ThreeTapes) → IsWellFormed accepts list → SlotsFit list.first slots → TapesFit list ds
      → IsAhead (joint_of answer list slots ds) list.steps (before_steps slots) ds
  ahead_start list slots ds fine slots_fit tapes_fit = record {
    layout = starting list.first;
    draws = ds;
    same = refl;
    left_is = λ e. refl;
    going = λ e. record {
      fine = fine.fine;
      fits = tapes_fit;
      few = omega arith;
      values = opening slots;
      kept =
          record {
            opens = record { registers = refl; slots = refl; flags = refl; stop = refl };
            long = tt;
            fits = starts_fit accepts answer list.first slots slots_fit;
          };
    };
  }

  pub ahead_end : (whole m : Machine) (x : ThreeTapes) → IsAhead whole [] m x → m ≡ whole
  ahead_end whole m x h = sym h.same

  pub ahead_next : (whole m : Machine) (s : Step T) (steps : List (Step T)) (k : ℕ) (x : ThreeTapes) → k < length steps → s ≡ get_or steps k s
      → IsAhead whole (drop k steps) m x → IsAhead whole (s ∷ drop (k + 1) steps) m x
  ahead_next whole m s steps k x lt is h =
      subst (λ ss. IsAhead whole ss m x) (drop_more steps k s lt ∙ ap (λ t. t ∷ drop (k + 1) steps) (sym is)) h

-- tapes that fit whole have a front that fits
pub fits_front : (ns : List Need) (ds : List Draw) → FitsNeeds ns ds → FitsFront ns ds
fits_front [] [] h = tt
fits_front [] (d ∷ ds) h = absurd h
fits_front (n ∷ ns) [] h = absurd h
fits_front (n ∷ ns) (d ∷ ds) h = (h.0, fits_front ns ds h.1)
