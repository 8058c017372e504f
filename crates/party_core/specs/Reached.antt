-- The views that cores have: a core is made with slots and tapes that fit, and each move keeps these facts.
use Rattle.std.specs.Prelude.{◌≡◌, ◌⊎◌, ℕ, ◌<◌, Bool, true, false, List, Option, Some, None, length, map}
use Rattle.std.specs.List.{AllByRecursion}
use Rattle.lanes.specs.declared.party.Party.{Party}
use Rattle.lanes.specs.Party.{next}
use Rattle.lanes.specs.Three.{at}
use Rattle.lanes.specs.Word.{AreWords}
use Rattle.tapes.specs.Needs.{FitsNeeds}
use Rattle.step_lists.specs.declared.step.Shape.{Shape}
use Rattle.step_lists.specs.declared.step.Step.{Step}
use Rattle.step_lists.specs.Layout.{Layout, starting}
use Rattle.step_lists.specs.Draws.{needs}
use Rattle.step_lists.specs.Rules.{IsWellFormed}
use Rattle.party_core.specs.Stages.{takes_at, takes_none, waits_at, stage_count}
use Rattle.party_core.specs.CoreView.{CoreView, Far, next_step, layout_here}
use Rattle.party_core.specs.Core.{part_so_far, taken_so_far, breaks_order_in}

-- within a step: a stage that it has, or its beginning; the turn of a stage was made where words are still to be taken
pub record StandsInStep {T : Type 0} (v : Party) (l : Layout) (s : Step T) (far : Far) : Type 0 where
  pub inside : (far.stages < stage_count v l s) ⊎ (far.stages ≡ 0)
  pub turned : far.turned ≡ true → (takes_none (takes_at v l s far.stages) ≡ false) × (waits_at v s far.stages ≡ false)

-- behind the last step: at its beginning
pub record StandsBehind {T : Type 0} (c : CoreView T) : Type 0 where
  pub end : c.far.steps ≡ length c.list.steps
  pub stages : c.far.stages ≡ 0
  pub turned : c.far.turned ≡ false

abbrev pub Stands : {T : Type 0} → CoreView T → Option (Step T) → Type 0
Stands c None = StandsBehind c
Stands c (Some s) = StandsInStep c.party (layout_here c) s c.far

-- behind a stop no move is made
pub record StandsStill (far : Far) : Type 0 where
  pub stages : far.stages ≡ 0
  pub turned : far.turned ≡ false

pub record IsReached {T : Type 0} (accepts : T → List Shape → List Shape → Bool) (answer : T → List (List ℕ) → List (List ℕ)) (c : CoreView T) : Type 0 where
  pub well_formed : IsWellFormed accepts c.list
  pub long : map length c.slots ≡ at c.party c.list.first
  pub below : AllByRecursion AreWords c.slots
  pub own : FitsNeeds (needs c.party (starting c.list.first) c.list.steps) c.given.own
  pub following : FitsNeeds (needs (next c.party) (starting c.list.first) c.list.steps) c.given.following
  pub words : (p : Party) → AreWords (at p c.given.received)
  pub taken : (p : Party) → length (at p c.given.received) ≡ at p (taken_so_far answer c)
  pub early : (part_so_far answer c).early ≡ None
  pub order : breaks_order_in c (next_step c) ≡ false
  pub stands : Stands c (next_step c)
  pub still : (part_so_far answer c).stop ≡ true → StandsStill c.far
