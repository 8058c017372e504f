-- When a run is refused, and what a run is seen as.
use Rattle.std.specs.Prelude.{◌≡◌, ℕ, ◌<◌, ◌≤◌, ◌==◌, Bool, false, ⊤, List, Option, Some, None, length, map, take, slice_get, IsTrue}
use Rattle.lanes.specs.declared.party.Party.{Party}
use Rattle.lanes.specs.Three.{at}
use Rattle.tapes.specs.Needs.{FitsNeeds}
use Rattle.tapes.specs.NeedLaws.{IsFirstUnfit}
use Rattle.step_lists.specs.Layout.{Steps, party_of, starting}
use Rattle.step_lists.specs.Draws.{ThreeTapes, needs}
use Rattle.step_lists.specs.Open.{SlotWords, stopped_at}
use Rattle.step_lists.specs.Phases.{Links}
use Rattle.step_lists.specs.Machine.{Machine}
use Rattle.step_lists.specs.Rules.{is_party}
use Rattle.joint_machine.specs.declared.joint.JointFault.{JointFault}
use Rattle.joint_machine.specs.declared.joint.JointFault.TheVariants.{Unfit, SlotLength, Memory}

-- the words on six links, each party's slots, and the number of the flag that stopped the run
pub record Ran : Type 0 where
  pub links : Links
  pub slots : SlotWords
  pub stop : Option ℕ

abbrev pub ran : Machine → Ran
ran m = record { links = m.links; slots = m.slots; stop = stopped_at m.stop m.flags }

-- a length that has a slot of another one or none, or a slot without a length
abbrev pub Misfits : Option ℕ → Option (List ℕ) → Type 0
Misfits None None = ⊥
Misfits None (Some words) = ⊤
Misfits (Some n) None = ⊤
Misfits (Some n) (Some words) = ¬ (length words ≡ n)

-- whether a slot has a length
abbrev pub is_of : ℕ → Option (List ℕ) → Bool
is_of n None = false
is_of n (Some words) = length words == n

-- the slots before number s have their lengths, and that one hasn't
pub record IsFirstMisfit (lengths : List ℕ) (slots : List (List ℕ)) (s : ℕ) : Type 0 where
  pub before : map length (take s slots) ≡ take s lengths
  pub misfit : Misfits (slice_get lengths s) (slice_get slots s)

-- the slots of a party, and of all parties, have the lengths of the list's first slots
abbrev pub HasFirst : {T : Type 0} → Steps T → SlotWords → Party → Type 0
HasFirst list slots p = map length (at p slots) ≡ at p list.first

abbrev pub HaveFirst : {T : Type 0} → Steps T → SlotWords → Type 0
HaveFirst list slots = (p : Party) → HasFirst list slots p

-- a tape has the draws that the list needs of it
abbrev pub FitsTape : {T : Type 0} → Steps T → ThreeTapes → Party → Type 0
FitsTape list ds p = FitsNeeds (needs p (starting list.first) list.steps) (at p ds)

-- the first party with a slot that misfits, and that slot
pub record IsSlotFault {T : Type 0} (list : Steps T) (slots : SlotWords) (p s : ℕ) : Type 0 where
  pub party : IsTrue (is_party p)
  pub earlier : (q : ℕ) → 1 ≤ q → q < p → HasFirst list slots (party_of q)
  pub misfit : IsFirstMisfit (at (party_of p) list.first) (at (party_of p) slots) s

-- the first tape that doesn't fit, and its first draw that doesn't
pub record IsTapeFault {T : Type 0} (list : Steps T) (ds : ThreeTapes) (t d : ℕ) : Type 0 where
  pub tape : IsTrue (is_party t)
  pub earlier : (q : ℕ) → 1 ≤ q → q < t → FitsTape list ds (party_of q)
  pub unfit : IsFirstUnfit (needs (party_of t) (starting list.first) list.steps) (at (party_of t) ds) d

-- slots come first, then tapes; want of memory is free
abbrev pub IsFault : {T : Type 0} → Steps T → SlotWords → ThreeTapes → JointFault → Type 0
IsFault list slots ds (SlotLength p s) = IsSlotFault list slots p s
IsFault list slots ds (Unfit t d) = HaveFirst list slots × IsTapeFault list ds t d
IsFault list slots ds Memory = ⊤
