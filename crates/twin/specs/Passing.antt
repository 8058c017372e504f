-- One step of two worlds at once: what has to hold before it, what stands behind it, and when the viewer tells them apart.
use Rattle.std.specs.Prelude.{◌≡◌, ◌<◌, ◌^◌, ◌++◌, ⊤, ℕ, Bool, List, [], ◌∷◌, drop}
use Rattle.lanes.specs.declared.party.Party.{Party}
use Rattle.lanes.specs.declared.three.Three.{Three}
use Rattle.lanes.specs.Party.{before}
use Rattle.lanes.specs.Three.{put}
use Rattle.tapes.specs.declared.draw.Draw.{Draw}
use Rattle.step_lists.specs.declared.step.Shape.{Shape}
use Rattle.step_lists.specs.declared.step.Step.{Step}
use Rattle.step_lists.specs.declared.step.Step.TheVariants.{Const, Lin, And, Share, Reveal, Steer, Tell, Work, Flag}
use Rattle.step_lists.specs.Layout.{Layout, party_of, length_of, rows_moved}
use Rattle.step_lists.specs.Draws.{ThreeTapes, needs_of, taken, dropped}
use Rattle.step_lists.specs.Seen.{Seen, Rows, Told, Flagged, Alike, AreAlike, same_party, only}
use Rattle.step_lists.specs.Machine.{Machine, slot_of, machine_step, step_words, delivered}
use Rattle.step_lists.specs.Twin.{open_rows, twin_draws}
use Rattle.joint_machine.specs.Stepping.{IsReady}
use Rattle.twin.specs.declared.fault.TwinFault.{TwinFault}
use Rattle.twin.specs.declared.fault.TwinFault.TheVariants.{NotAligned, Memory}
use Rattle.twin.specs.Apart.{rows_seen}

-- what a machine shows a party in a step
abbrev pub shows : {T : Type 0} → Party → Layout → Machine → Step T → List Seen
shows v l m (Const words) = []
shows v l m (Lin op) = []
shows v l m (And left right) = []
shows v l m (Share party s) = []
shows v l m (Reveal to moved shown) = only (same_party v (party_of to)) (Rows (open_rows m (rows_moved l moved) moved shown))
shows v l m (Steer by s moved) = []
shows v l m (Tell source target s) = only (same_party v (party_of target)) (Told (slot_of m (party_of source) s))
shows v l m (Work party task takes gives) = []
shows v l m (Flag party s) = Flagged (slot_of m (party_of party) s) ∷ []

-- the draws of three tapes from these places on
abbrev pub left_at : Three ℕ → ThreeTapes → ThreeTapes
left_at places ds = record { first = drop places.first ds.first; second = drop places.second ds.second; third = drop places.third ds.third }

-- the three tapes with the twin's draws of a step
abbrev pub twin_drawn : {T : Type 0} → Party → Layout → Machine → Machine → Step T → ThreeTapes → ThreeTapes
twin_drawn v l x y s ds = put (before v) (twin_draws v l x y s ds) ds

-- two machines that are ready for a step, the second one with the twin's draws of it on the unseen tape
pub record AreReady {T : Type 0} (accepts : T → List Shape → List Shape → Bool) (v : Party) (l : Layout) (s : Step T) (x y : Machine) (ds : ThreeTapes) : Type 0 where
  pub one : IsReady accepts l s x ds
  pub other : IsReady accepts l s y (put (before v) (twin_draws v l x y s (taken (needs_of l s) ds)) ds)
  pub short : (r : ℕ) → length_of l r < 2 ^ 32

-- the machine behind a step with these draws
abbrev pub stepped : {T : Type 0} → (T → List (List ℕ) → List (List ℕ)) → Layout → Step T → Machine → ThreeTapes → Machine
stepped answer l s m ds = delivered (step_words l m s ds) (machine_step answer l m s ds)

-- both machines behind a step that shows the viewer the same, the twin so far, and what is left of the tapes
pub record ArePassed {T : Type 0} (answer : T → List (List ℕ) → List (List ℕ)) (v : Party) (l : Layout) (s : Step T) (x y : Machine) (ds : ThreeTapes) (made : List Draw)
    (x' y' : Machine) (rest : ThreeTapes) (made' : List Draw) : Type 0 where
  pub one : x' ≡ stepped answer l s x (taken (needs_of l s) ds)
  pub other : y' ≡ stepped answer l s y (twin_drawn v l x y s (taken (needs_of l s) ds))
  pub twin : made' ≡ made ++ twin_draws v l x y s (taken (needs_of l s) ds)
  pub left : rest ≡ dropped (needs_of l s) ds
  pub alike : AreAlike (shows v l x s) (shows v l y s)

-- what a step shows the viewer isn't alike: these rows in the first world, and others in the second
pub record IsApartHere {T : Type 0} (v : Party) (l : Layout) (s : Step T) (x y : Machine) (rows others : List (List ℕ)) : Type 0 where
  pub first : Seen
  pub second : Seen
  pub first_is : shows v l x s ≡ first ∷ []
  pub second_is : shows v l y s ≡ second ∷ []
  pub differ : ¬ Alike first second
  pub first_rows : rows ≡ rows_seen first
  pub second_rows : others ≡ rows_seen second

-- why step k isn't passed; want of memory is free
abbrev pub IsStepFault : {T : Type 0} → Party → Layout → Step T → Machine → Machine → ℕ → TwinFault → Type 0
IsStepFault v l s x y k (NotAligned step rows others) = (step ≡ k) × IsApartHere v l s x y rows others
IsStepFault v l s x y k Memory = ⊤
