-- What has to hold of each kind of step.
use Rattle.std.proofs.Common.{◌≡◌, ℕ, Bool, List}
use Rattle.std.specs.Prelude.{IsTrue}
use Rattle.lanes.specs.declared.party.Party.{Party}
use Rattle.lanes.specs.Party.{before}
use Rattle.lanes.specs.Three.{at}
use Rattle.tapes.specs.Needs.{FitsNeeds}
use Rattle.step_lists.specs.declared.step.Shape.{Shape}
use Rattle.step_lists.specs.declared.step.Step.{Step}
use Rattle.step_lists.specs.Layout.{Layout, grown}
use Rattle.step_lists.specs.Rules.{fits_layout}
use Rattle.step_lists.specs.Draws.{ThreeTapes, needs_of}
use Rattle.step_lists.specs.Seen.{AreAlike}
use Rattle.step_lists.specs.Machine.{Machine, machine_step, step_words}
use Rattle.step_lists.specs.Twin.{twin_draws}
pub use Rattle.twin.specs.Passing.{shows, twin_drawn}
use Rattle.twin.proofs.Same.{Fitting, SameHere, SameWords}

-- the draws of a step
abbrev pub AreDrawsOf : {T : Type 0} → Layout → Step T → ThreeTapes → Type 0
AreDrawsOf l s ds = (p : Party) → FitsNeeds (at p (needs_of l s)) (at p ds)

module _ {T : Type 0} (accepts : T → List Shape → List Shape → Bool) (answer : T → List (List ℕ) → List (List ℕ)) where
  -- a step that the layout allows, and its draws
  pub record Allowed (l : Layout) (s : Step T) (ds : ThreeTapes) : Type 0 where
    pub step : IsTrue (fits_layout accepts l s)
    pub draws : AreDrawsOf l s ds

  -- (1) a machine that fits does so behind the step
  abbrev pub Fits : Step T → Type 0
  Fits s = (l : Layout) (m : Machine) (ds : ThreeTapes) → Allowed l s ds → Fitting l m → Fitting (grown l s) (machine_step answer l m s ds)

  -- (2) the twin's draws are what the step needs
  abbrev pub Meets : Step T → Type 0
  Meets s = (v : Party) (l : Layout) (x y : Machine) (ds : ThreeTapes) → Allowed l s ds → Fitting l x → Fitting l y
      → FitsNeeds (at (before v) (needs_of l s)) (twin_draws v l x y s ds)

  -- two machines that v can't tell apart before a step, which shows it the same
  pub record Pair (v : Party) (l : Layout) (x y : Machine) (s : Step T) (ds : ThreeTapes) : Type 0 where
    pub allowed : Allowed l s ds
    pub one : Fitting l x
    pub other : Fitting l y
    pub same : SameHere v x y
    pub shown : AreAlike (shows v l x s) (shows v l y s)

  -- (3) v can't tell them apart behind the step, and receives the same words in it
  pub record IsKept (v : Party) (l : Layout) (x y : Machine) (s : Step T) (ds : ThreeTapes) : Type 0 where
    pub same : SameHere v (machine_step answer l x s ds) (machine_step answer l y s (twin_drawn v l x y s ds))
    pub words : SameWords v (step_words l x s ds) (step_words l y s (twin_drawn v l x y s ds))

  abbrev pub Keeps : Step T → Type 0
  Keeps s = (v : Party) (l : Layout) (x y : Machine) (ds : ThreeTapes) → Pair v l x y s ds → IsKept v l x y s ds

  -- (4) the way back gives the old draws
  abbrev pub Returns : Step T → Type 0
  Returns s = (v : Party) (l : Layout) (x y : Machine) (ds : ThreeTapes) → Pair v l x y s ds
      → twin_draws v l y x s (twin_drawn v l x y s ds) ≡ at (before v) ds

  pub record StepHolds (s : Step T) : Type 0 where
    pub fits : Fits s
    pub meets : Meets s
    pub keeps : Keeps s
    pub back : Returns s
