-- The twin of tapes that fit fits, step by step.
use Rattle.std.proofs.Common.{◌≡◌, ℕ, Bool, true, false, List, [], ◌∷◌, refl, sym, subst, ◌∙◌}
use Rattle.std.specs.Prelude.{◌||◌, if◌then◌else◌}
use Rattle.lanes.specs.declared.party.Party.{Party}
use Rattle.lanes.specs.declared.party.Party.TheVariants.{First, Second, Third}
use Rattle.lanes.specs.Party.{before}
use Rattle.lanes.specs.Three.{at, put}
use Rattle.tapes.specs.declared.draw.Draw.{Draw}
use Rattle.tapes.specs.Needs.{FitsNeeds}
use Rattle.step_lists.specs.declared.step.Shape.{Shape}
use Rattle.step_lists.specs.declared.step.Step.{Step}
use Rattle.step_lists.specs.Layout.{Layout, grown}
use Rattle.step_lists.specs.Rules.{AreFine, fits_layout, is_small}
use Rattle.step_lists.specs.Draws.{ThreeTapes, parties, needs, needs_of, taken, dropped}
use Rattle.step_lists.specs.Run.{outs, tape_cut}
use Rattle.step_lists.specs.Machine.{Machine, machine_step, step_words, delivered, joint_going}
use Rattle.step_lists.specs.Prefixes.{at-taken, at-dropped}
use Rattle.step_lists.specs.Twin.{twin_draws, twin_going, worlds_going, draws_going}
use Rattle.twin.proofs.Facts.{Facts}
use Rattle.twin.proofs.Lists.{true_apart, both}
use Rattle.twin.proofs.Same.{Fitting}
use Rattle.twin.proofs.Steps.{AreDrawsOf, Allowed, StepHolds}
use Rattle.twin.proofs.Puts.{put_holds}

-- the tapes fit the steps that are still to come
abbrev pub AreLeft : {T : Type 0} → Layout → List (Step T) → ThreeTapes → Type 0
AreLeft l ss ds = (p : Party) → FitsNeeds (needs p l ss) (at p ds)

-- a machine that fits as long as it hasn't stopped
abbrev pub FitsGoing : Layout → Machine → Type 0
FitsGoing l m = m.stop ≡ false → Fitting l m

module _ {T : Type 0} (accepts : T → List Shape → List Shape → Bool) (answer : T → List (List ℕ) → List (List ℕ)) (facts : Facts)
    (holds : (s : Step T) → StepHolds accepts answer s) where
  at_all : (p : Party) (l : Layout) (ss : List (Step T)) → at p (parties (λ q. needs q l ss)) ≡ needs p l ss
  at_all First l ss = refl
  at_all Second l ss = refl
  at_all Third l ss = refl

  pub left_first : (l : Layout) (s : Step T) (ss : List (Step T)) (ds : ThreeTapes) → AreLeft l (s ∷ ss) ds → AreDrawsOf l s (taken (needs_of l s) ds)
  left_first l s ss ds h p =
      subst (FitsNeeds (at p (needs_of l s))) (sym (at-taken p (needs_of l s) ds)) (facts.needs.first (at p (needs_of l s)) (needs p (grown l s) ss) (at p ds) (h p))

  pub left_behind : (l : Layout) (s : Step T) (ss : List (Step T)) (ds : ThreeTapes) → AreLeft l (s ∷ ss) ds → AreLeft (grown l s) ss (dropped (needs_of l s) ds)
  left_behind l s ss ds h p =
      subst (FitsNeeds (needs p (grown l s) ss)) (sym (at-dropped p (needs_of l s) ds)) (facts.needs.behind (at p (needs_of l s)) (needs p (grown l s) ss) (at p ds) (h p))

  pub allowed : (l : Layout) (s : Step T) (ss : List (Step T)) (ds : ThreeTapes) → AreFine accepts l (s ∷ ss) → AreDrawsOf l s ds → Allowed accepts answer l s ds
  allowed l s ss ds fine h = record { step = (both (fits_layout accepts l s) (is_small (grown l s)) fine.0).0; draws = h }

  pub going_fits : (l : Layout) (s : Step T) (m : Machine) (ds : ThreeTapes) → Allowed accepts answer l s ds → FitsGoing l m → FitsGoing (grown l s) (joint_going answer l m s ds)
  going_fits l s m ds a h = by m.stop refl where
    sent : Fitting (grown l s) (machine_step answer l m s ds) → Fitting (grown l s) (delivered (step_words l m s ds) (machine_step answer l m s ds))
    sent f = record { registers = f.registers; slots = f.slots }

    by : (b : Bool) → m.stop ≡ b → FitsGoing (grown l s) (if b then m else delivered (step_words l m s ds) (machine_step answer l m s ds))
    by true e = λ f. absurd (true_apart (sym f ∙ e))
    by false e = λ f. sent ((holds s).fits l m ds a (h e))

  -- the draws of a step, with the twin's in place
  pub twin_fitting : (v : Party) (l : Layout) (s : Step T) (x y : Machine) (ds : ThreeTapes) → Allowed accepts answer l s ds → FitsGoing l x → FitsGoing l y
      → FitsNeeds (at (before v) (needs_of l s)) (twin_going v l x y s ds)
  twin_fitting v l s x y ds a h i = by x.stop y.stop refl refl where
    by : (b c : Bool) → x.stop ≡ b → y.stop ≡ c → FitsNeeds (at (before v) (needs_of l s)) (if b || c then at (before v) ds else twin_draws v l x y s ds)
    by true c e f = a.draws (before v)
    by false true e f = a.draws (before v)
    by false false e f = (holds s).meets v l x y ds a (h e) (i f)

  pub twin_allowed : (v : Party) (l : Layout) (s : Step T) (x y : Machine) (ds : ThreeTapes) → Allowed accepts answer l s ds → FitsGoing l x → FitsGoing l y
      → Allowed accepts answer l s (put (before v) (twin_going v l x y s ds) ds)
  twin_allowed v l s x y ds a h i = record {
    step = a.step;
    draws = put_holds FitsNeeds (before v) (needs_of l s) (twin_going v l x y s ds) ds (twin_fitting v l s x y ds a h i) a.draws;
  }

  -- the twin from some step on
  abbrev pub twin_from : Party → Layout → Machine → Machine → List (Step T) → ThreeTapes → List Draw
  twin_from v l x y ss ds = outs (worlds_going answer v) (draws_going answer v) tape_cut l (record { one = x; other = y }) ss ds

  pub fit_run : (v : Party) (l : Layout) (ss : List (Step T)) (x y : Machine) (ds : ThreeTapes) → AreFine accepts l ss → AreLeft l ss ds → FitsGoing l x → FitsGoing l y
      → FitsNeeds (needs (before v) l ss) (twin_from v l x y ss ds)
  fit_run v l [] x y ds fine left h i = tt
  fit_run v l (s ∷ ss) x y ds fine left h i =
      let d = taken (needs_of l s) ds in
      let a = allowed l s ss d fine (left_first l s ss ds left) in
      let t = twin_going v l x y s d in
      let es = put (before v) t d in
      facts.needs.both (at (before v) (needs_of l s)) (needs (before v) (grown l s) ss) t _ (twin_fitting v l s x y d a h i)
      (fit_run v (grown l s) ss (joint_going answer l x s d) (joint_going answer l y s es) (dropped (needs_of l s) ds) fine.1 (left_behind l s ss ds left)
      (going_fits l s x d a h) (going_fits l s y es (twin_allowed v l s x y d a h i) i))

  -- the tapes with the twin in place
  pub left_twin : (v : Party) (l : Layout) (ss : List (Step T)) (x y : Machine) (ds : ThreeTapes) → AreFine accepts l ss → AreLeft l ss ds → FitsGoing l x → FitsGoing l y
      → AreLeft l ss (put (before v) (twin_from v l x y ss ds) ds)
  left_twin v l ss x y ds fine left h i p =
      subst (λ ns. FitsNeeds ns (at p (put (before v) (twin_from v l x y ss ds) ds))) (at_all p l ss)
      (put_holds FitsNeeds (before v) (parties (λ q. needs q l ss)) (twin_from v l x y ss ds) ds
      (subst (λ ns. FitsNeeds ns (twin_from v l x y ss ds)) (sym (at_all (before v) l ss)) (fit_run v l ss x y ds fine left h i))
      (λ q. subst (λ ns. FitsNeeds ns (at q ds)) (sym (at_all q l ss)) (left q)) p)
