-- What a trio keeps, seen as a run: three cores, and for each the words that it has sent; and what was done of turns that
-- want of memory cut off.
use Rattle.std.specs.Prelude.{◌≡◌, ℕ, Bool, true, false, List, ◌++◌, take}
use Rattle.lanes.specs.declared.party.Party.{Party}
use Rattle.lanes.specs.declared.three.Three.{Three}
use Rattle.lanes.specs.Party.{next, before}
use Rattle.lanes.specs.Three.{at, put}
use Rattle.step_lists.specs.declared.step.Shape.{Shape}
use Rattle.step_lists.specs.Layout.{Steps}
use Rattle.step_lists.specs.Draws.{ThreeTapes, nothing, parties}
use Rattle.step_lists.specs.Open.{SlotWords}
use Rattle.step_lists.specs.Phases.{Links}
use Rattle.party_core.specs.declared.outbox.Outbox.{Outbox}
use Rattle.party_core.specs.declared.want.Want.{Want}
use Rattle.party_core.specs.declared.want.Want.TheVariants.{Turn, Words, Done, Stopped}
use Rattle.party_core.specs.CoreView.{CoreView}
use Rattle.trio.specs.Running.{Running, in_turns, rounds}
use Rattle.trio.specs.RunOf.{IsRunOf}

-- the words in a party's outbox, by the party that they go to
abbrev pub sent_in : Party → Outbox → Three (List ℕ)
sent_in v o = put (next v) o.next.items (put (before v) o.previous.items nothing)

abbrev pub links_of : Three Outbox → Links
links_of os = parties (λ v. sent_in v (at v os))

abbrev pub running : {T : Type 0} → Three (CoreView T) → Three Outbox → Running T
running cores os = record { cores = cores; sent = links_of os }

-- a run of some list, on some slots and tapes
pub record IsRun {T : Type 0} (accepts : T → List Shape → List Shape → Bool) (answer : T → List (List ℕ) → List (List ℕ)) (r : Running T) : Type 0 where
  pub list : Steps T
  pub slots : SlotWords
  pub tapes : ThreeTapes
  pub is : IsRunOf accepts answer list slots tapes r

-- whether a core that wants this makes no more moves
abbrev pub is_end : Want → Bool
is_end Turn = false
is_end (Words q n) = false
is_end Done = true
is_end (Stopped flag) = true

-- the first ones of some turns are done
pub record AreBegun {T : Type 0} (answer : T → List (List ℕ) → List (List ℕ)) (turns : List ℕ) (before after : Running T) : Type 0 where
  pub done : ℕ
  pub is : after ≡ in_turns answer (take done turns) before

-- the same of turns with so many rounds behind them
pub record IsPartRun {T : Type 0} (answer : T → List (List ℕ) → List (List ℕ)) (turns : List ℕ) (before after : Running T) : Type 0 where
  pub count : ℕ
  pub begun : AreBegun answer (turns ++ rounds count) before after
