-- What further steps add to a list.
use Rattle.std.specs.Prelude.{ℕ, ◌+◌, ◌≤◌, Bool, true, false, IsTrue, List, []}
use Rattle.std.specs.List.{AllByRecursion}
use Rattle.lanes.specs.declared.party.Party.{Party}
use Rattle.step_lists.specs.declared.step.Step.{Step}
use Rattle.step_lists.specs.declared.step.Step.TheVariants.{Const, Lin, And, Share, Reveal, Steer, Tell, Work, Flag}
use Rattle.step_lists.specs.Layout.{Steps}
use Rattle.step_lists.specs.Draws.{ThreeTapes}
use Rattle.step_lists.specs.Open.{SlotWords}
use Rattle.step_lists.specs.Possible.{Possible, StandsIn, ands_in}
use Rattle.step_lists.specs.Seen.{Seen, AreAlike, seen_behind}

-- each step is of a kind that may stand there
abbrev pub AllMay : {T : Type 0} → (Step T → Bool) → List (Step T) → Type 0
AllMay may ss = AllByRecursion (λ s. IsTrue (may s)) ss

-- the steps of a circuit
abbrev pub is_circuit : {T : Type 0} → Step T → Bool
is_circuit (Const words) = true
is_circuit (Lin op) = true
is_circuit (And left right) = true
is_circuit (Share party slot) = false
is_circuit (Reveal to moved shown) = false
is_circuit (Steer by slot moved) = false
is_circuit (Tell source target slot) = false
is_circuit (Work party task takes gives) = false
is_circuit (Flag party slot) = false

-- the steps that open nothing to anyone
abbrev pub opens_nothing : {T : Type 0} → Step T → Bool
opens_nothing (Const words) = true
opens_nothing (Lin op) = true
opens_nothing (And left right) = true
opens_nothing (Share party slot) = true
opens_nothing (Reveal to moved shown) = false
opens_nothing (Steer by slot moved) = true
opens_nothing (Tell source target slot) = false
opens_nothing (Work party task takes gives) = true
opens_nothing (Flag party slot) = false

-- the first list begins the second; behind it stand only steps that may, of at most so many AND words; and in each
-- world, loaded into the first slots, the steps show each party what is wanted
pub record Adds {T W : Type 0} (answer : T → List (List ℕ) → List (List ℕ)) (load : W → SlotWords) (a b : Steps T) (may : Step T → Bool) (most : ℕ)
    (want : W → Party → List Seen) : Type 0 where
  pub front : StandsIn a b
  pub kinds : AllMay may front.more
  pub words : ands_in b ≤ ands_in a + most
  pub shown : (w : W) (ds : ThreeTapes) → Possible answer b (load w) ds → (v : Party) → AreAlike (seen_behind answer v a front.more (load w) ds) (want w v)

-- nothing is shown to anyone
abbrev pub wants_nothing : {W : Type 0} → W → Party → List Seen
wants_nothing w v = []
