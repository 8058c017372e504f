-- A run of three parties over a list, on slots and tapes that fit it: what holds of it at every moment, whatever the order of turns.
use Rattle.std.specs.Prelude.{◌≡◌, ◌⊎◌, ℕ, suc, ◌+◌, ◌≤◌, Bool, false, List, ◌++◌, length, take, if◌then◌else◌}
use Rattle.lanes.specs.declared.party.Party.{Party}
use Rattle.lanes.specs.declared.party.Party.TheVariants.{First, Second, Third}
use Rattle.lanes.specs.Party.{next}
use Rattle.lanes.specs.Three.{at}
use Rattle.step_lists.specs.declared.step.Shape.{Shape}
use Rattle.step_lists.specs.Layout.{Steps, party_of}
use Rattle.step_lists.specs.Draws.{ThreeTapes, parties}
use Rattle.step_lists.specs.Rules.{IsWellFormed}
use Rattle.step_lists.specs.Open.{SlotWords}
use Rattle.step_lists.specs.Phases.{link, no_words}
use Rattle.step_lists.specs.Machine.{joint_of}
use Rattle.step_lists.specs.Possible.{Fits, SlotsFit, TapesFit}
use Rattle.party_core.specs.declared.want.Want.{Want}
use Rattle.party_core.specs.declared.want.Want.TheVariants.{Words, Done, Stopped}
use Rattle.party_core.specs.CoreView.{CoreView, fresh_core}
use Rattle.party_core.specs.Core.{part_so_far, sent_so_far, want_of, breaks_order}
use Rattle.party_core.specs.Moves.{moves_left}
use Rattle.party_core.specs.Reached.{IsReached}
use Rattle.trio.specs.declared.stepped.Stepped.TheVariants.{Moved}
use Rattle.trio.specs.Running.{Running, core_at, taken_on, waiting_on, moved, stepped, in_turns, rounds, HaveEnded}

-- a list that begins another one
pub record Begins (few more : List ℕ) : Type 0 where
  pub rest : List ℕ
  pub is : more ≡ few ++ rest

-- the core of v on this list, these slots and these tapes
pub record IsCoreOf {T : Type 0} (accepts : T → List Shape → List Shape → Bool) (answer : T → List (List ℕ) → List (List ℕ)) (list : Steps T) (slots : SlotWords) (ds : ThreeTapes)
    (v : Party) (c : CoreView T) : Type 0 where
  pub list_is : c.list ≡ list
  pub party : c.party ≡ v
  pub slots_are : c.slots ≡ at v slots
  pub own : c.given.own ≡ at v ds
  pub following : c.given.following ≡ at (next v) ds
  pub reached : IsReached accepts answer c

-- three cores whose links begin those of the joint run: what was taken begins what was sent, and that begins the joint
-- run's words
pub record IsRunOf {T : Type 0} (accepts : T → List Shape → List Shape → Bool) (answer : T → List (List ℕ) → List (List ℕ)) (list : Steps T) (slots : SlotWords) (ds : ThreeTapes)
    (r : Running T) : Type 0 where
  pub well_formed : IsWellFormed accepts list
  pub fits : Fits list slots ds
  pub cores : (v : Party) → IsCoreOf accepts answer list slots ds v (core_at v r)
  pub sent : (v : Party) → at v r.sent ≡ sent_so_far answer (core_at v r)
  pub taken : (q v : Party) → Begins (taken_on q v r) (link q v r.sent)
  pub begins : (q v : Party) → Begins (link q v r.sent) (link q v (joint_of answer list slots ds).links)

-- how a core has ended where the machine has: at the end of the list, or at the flag that stopped it
abbrev pub ends_as : Bool → ℕ → Want
ends_as stop flags = if stop then Stopped flags else Done

-- all have ended: links, slots and stops are the joint run's
pub record EndsAsJoint {T : Type 0} (answer : T → List (List ℕ) → List (List ℕ)) (list : Steps T) (slots : SlotWords) (ds : ThreeTapes) (r : Running T) : Type 0 where
  pub sent : r.sent ≡ (joint_of answer list slots ds).links
  pub taken : (q v : Party) → taken_on q v r ≡ link q v (joint_of answer list slots ds).links
  pub slots_are : (v : Party) → (part_so_far answer (core_at v r)).slots ≡ at v (joint_of answer list slots ds).slots
  pub stops : (v : Party) → want_of answer (core_at v r) ≡ ends_as (joint_of answer list slots ds).stop (joint_of answer list slots ds).flags

-- three fresh cores, and no words on the links
abbrev pub fresh_run : {T : Type 0} → Steps T → SlotWords → ThreeTapes → Running T
fresh_run list slots ds = record { cores = parties (λ v. fresh_core list v (at v slots) (at v ds) (at (next v) ds)); sent = no_words }

-- how many moves are left to all three
abbrev pub all_moves_left : {T : Type 0} → Running T → ℕ
all_moves_left r = moves_left (core_at First r) + moves_left (core_at Second r) + moves_left (core_at Third r)

-- a run begins as one of its list, and each step keeps it such and takes one move off where one is made; the words that
-- wait complete no private order that isn't one
pub record RunsKeep {T : Type 0} (accepts : T → List Shape → List Shape → Bool) (answer : T → List (List ℕ) → List (List ℕ)) : Type 0 where
  pub starts : (list : Steps T) (slots : SlotWords) (ds : ThreeTapes) → IsWellFormed accepts list → SlotsFit list.first slots → TapesFit list ds
      → IsRunOf accepts answer list slots ds (fresh_run list slots ds)
  pub steps : (list : Steps T) (slots : SlotWords) (ds : ThreeTapes) (r : Running T) (v : Party) → IsRunOf accepts answer list slots ds r
      → IsRunOf accepts answer list slots ds (moved answer v r)
  pub honest : (list : Steps T) (slots : SlotWords) (ds : ThreeTapes) (r : Running T) (v : Party) (q n : ℕ) → IsRunOf accepts answer list slots ds r
      → want_of answer (core_at v r) ≡ Words q n → n ≤ length (waiting_on (party_of q) v r)
      → breaks_order (core_at v r) (party_of q) (take n (waiting_on (party_of q) v r)) ≡ false
  pub lowers : (list : Steps T) (slots : SlotWords) (ds : ThreeTapes) (r : Running T) (v : Party) → IsRunOf accepts answer list slots ds r
      → stepped answer v r ≡ Moved → all_moves_left r ≡ suc (all_moves_left (moved answer v r))

-- whatever the turns, the run stays one of its list, and behind enough rounds all have ended; so in every order of turns
-- links, slots and stops come out as the joint run's
abbrev pub EveryOrderEnds : {T : Type 0} → (T → List Shape → List Shape → Bool) → (T → List (List ℕ) → List (List ℕ)) → Type 0
EveryOrderEnds {T} accepts answer =
    (list : Steps T) (slots : SlotWords) (ds : ThreeTapes) (r : Running T) (turns : List ℕ) → IsRunOf accepts answer list slots ds r
    → IsRunOf accepts answer list slots ds (in_turns answer turns r)
    × ((count : ℕ) × (HaveEnded answer (in_turns answer (turns ++ rounds count) r) × IsRunOf accepts answer list slots ds (in_turns answer (turns ++ rounds count) r)))

-- until all have ended some party can move, and when they have they are where the joint run is
pub record RunsGoOn {T : Type 0} (accepts : T → List Shape → List Shape → Bool) (answer : T → List (List ℕ) → List (List ℕ)) : Type 0 where
  pub goes_on : (list : Steps T) (slots : SlotWords) (ds : ThreeTapes) (r : Running T) → IsRunOf accepts answer list slots ds r
      → HaveEnded answer r ⊎ ((v : Party) × (stepped answer v r ≡ Moved))
  pub ends : (list : Steps T) (slots : SlotWords) (ds : ThreeTapes) (r : Running T) → IsRunOf accepts answer list slots ds r → HaveEnded answer r
      → EndsAsJoint answer list slots ds r
