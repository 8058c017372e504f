-- What a core keeps beside its view: what its part has so far.
use Rattle.std.specs.Prelude.{◌≡◌, ℕ, Bool, List, length, take}
use Rattle.lanes.specs.declared.party.Party.{Party}
use Rattle.lanes.specs.Party.{next}
use Rattle.lanes.specs.Three.{at}
use Rattle.step_lists.specs.declared.step.Shape.{Shape}
use Rattle.step_lists.specs.Draws.{needs}
use Rattle.step_lists.specs.Layout.{Steps, starting}
use Rattle.step_lists.specs.Part.{Given, Part}
use Rattle.party_core.specs.declared.places.Places.{Places}
use Rattle.party_core.specs.CoreView.{CoreView}
use Rattle.party_core.specs.Core.{part_so_far}
use Rattle.party_core.specs.Holding.{kept}
use Rattle.party_core.specs.Reached.{IsReached}

-- its first slots are the first ones of all
abbrev pub seen_of : {T : Type 0} → Steps T → Party → Given → List (List ℕ) → ℕ → ℕ → Bool → CoreView T
seen_of list v given slots steps stages turned =
    record { list = list; party = v; slots = take (length (at v list.first)) slots; given = given; far = record { steps = steps; stages = stages; turned = turned } }

abbrev pub kept_of : Part → Part
kept_of a = kept a.pairs a.slots a.flags a.stop

-- how much the steps that are done have used of the tapes and of the words that came
pub record IsPlaced {T : Type 0} (answer : T → List (List ℕ) → List (List ℕ)) (c : CoreView T) (p : Places) : Type 0 where
  pub own : p.own ≡ length (needs c.party (starting c.list.first) (take c.far.steps c.list.steps))
  pub following : p.following ≡ length (needs (next c.party) (starting c.list.first) (take c.far.steps c.list.steps))
  pub received : (q : Party) → at q p.received ≡ at q (part_so_far answer c).taken

pub record IsHeld {T : Type 0} (accepts : T → List Shape → List Shape → Bool) (answer : T → List (List ℕ) → List (List ℕ)) (c : CoreView T) (a : Part) (p : Places) : Type 0 where
  pub reached : IsReached accepts answer c
  pub part : a ≡ kept_of (part_so_far answer c)
  pub places : IsPlaced answer c p
