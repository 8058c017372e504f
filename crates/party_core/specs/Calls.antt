-- What the calls of a core promise: why none is made, what a turn puts into an outbox, and which words are taken.
use Rattle.std.specs.Prelude.{◌≡◌, ◌⊎◌, ℕ, ◌==◌, Bool, true, false, ⊤, List, ◌++◌, Option, Some, None, length, map, take, slice_get}
use Rattle.lanes.specs.declared.party.Party.{Party}
use Rattle.lanes.specs.declared.party.Party.TheVariants.{First, Second, Third}
use Rattle.lanes.specs.declared.three.Three.{Three}
use Rattle.lanes.specs.Party.{next, before}
use Rattle.lanes.specs.Three.{at}
use Rattle.tapes.specs.declared.draw.Draw.{Draw}
use Rattle.tapes.specs.declared.draw.Need.{Need}
use Rattle.tapes.specs.Needs.{FitsNeeds}
use Rattle.tapes.specs.NeedLaws.{IsFirstUnfit}
use Rattle.step_lists.specs.Draws.{schedule_of}
use Rattle.step_lists.specs.Layout.{Steps, party_of}
use Rattle.party_core.specs.declared.faults.CoreFault.{CoreFault}
use Rattle.party_core.specs.declared.faults.CoreFault.TheVariants.{Unfit, SlotLength, Memory}
use Rattle.party_core.specs.declared.faults.TakeFault.{TakeFault}
use Rattle.party_core.specs.declared.faults.TakeFault.TheVariants as take_faults
use Rattle.party_core.specs.declared.outbox.Outbox.{Outbox}
use Rattle.party_core.specs.declared.want.Want.{Want}
use Rattle.party_core.specs.declared.want.Want.TheVariants.{Turn, Words, Done, Stopped}

-- a length that has a slot of another one or none, or a slot without a length
abbrev pub Misfits : Option ℕ → Option (List ℕ) → Type 0
Misfits None None = ⊥
Misfits None (Some words) = ⊤
Misfits (Some n) None = ⊤
Misfits (Some n) (Some words) = ¬ (length words ≡ n)

-- whether a slot has a length
abbrev pub is_of : ℕ → Option (List ℕ) → Bool
is_of n None = false
is_of n (Some words) = length words == n

-- the slots before number s have their lengths, and that one hasn't
pub record IsFirstMisfit (lengths : List ℕ) (slots : List (List ℕ)) (s : ℕ) : Type 0 where
  pub before : map length (take s slots) ≡ take s lengths
  pub misfit : Misfits (slice_get lengths s) (slice_get slots s)

abbrev pub IsSlotsFault : List ℕ → List (List ℕ) → CoreFault → Type 0
IsSlotsFault lengths slots (SlotLength s) = IsFirstMisfit lengths slots s
IsSlotsFault lengths slots (Unfit t d) = ⊥
IsSlotsFault lengths slots Memory = ⊥

-- of two tapes with their needs the first one that doesn't fit, and its first draw that doesn't
abbrev pub IsUnfit : ℕ → List Need → List Draw → ℕ → List Need → List Draw → CoreFault → Type 0
IsUnfit low needs draws high more others (Unfit t d) = ((t ≡ low) × IsFirstUnfit needs draws d) ⊎ ((t ≡ high) × FitsNeeds needs draws × IsFirstUnfit more others d)
IsUnfit low needs draws high more others (SlotLength s) = ⊥
IsUnfit low needs draws high more others Memory = ⊥

-- the same of the two tapes of a party
abbrev pub IsTapesFault : Party → Three (List Need) → List Draw → List Draw → CoreFault → Type 0
IsTapesFault First ns own following fault = IsUnfit 1 ns.first own 2 ns.second following fault
IsTapesFault Second ns own following fault = IsUnfit 2 ns.second own 3 ns.third following fault
IsTapesFault Third ns own following fault = IsUnfit 1 ns.first following 3 ns.third own fault

-- slots come first, then tapes; want of memory is free
abbrev pub IsCoreFault : {T : Type 0} → Steps T → Party → List (List ℕ) → List Draw → List Draw → CoreFault → Type 0
IsCoreFault list v slots own following (SlotLength s) = IsFirstMisfit (at v list.first) slots s
IsCoreFault list v slots own following (Unfit t d) = (map length slots ≡ at v list.first) × IsTapesFault v (schedule_of list) own following (Unfit t d)
IsCoreFault list v slots own following Memory = ⊤

-- ---- moves

-- the words that lie in an outbox
pub record Posted : Type 0 where
  pub next : List ℕ
  pub previous : List ℕ

abbrev pub posted : Outbox → Posted
posted o = record { next = o.next.items; previous = o.previous.items }

-- and more of them, of what a party sends each party
abbrev pub more_posted : Party → Three (List ℕ) → Posted → Posted
more_posted v words o = record { next = o.next ++ at (next v) words; previous = o.previous ++ at (before v) words }

-- as many words as are wanted
abbrev pub IsWanted : Want → List ℕ → Type 0
IsWanted (Words source count) words = length words ≡ count
IsWanted Turn words = ⊥
IsWanted Done words = ⊥
IsWanted (Stopped flag) words = ⊥

-- the party whose words are wanted
abbrev pub wanted_from : Want → Party
wanted_from (Words source count) = party_of source
wanted_from Turn = First
wanted_from Done = First
wanted_from (Stopped flag) = First

-- why words aren't taken: they complete a private order that isn't one; want of memory is free
abbrev pub IsTakeFault : Bool → TakeFault → Type 0
IsTakeFault broken take_faults.NotOrder = broken ≡ true
IsTakeFault broken take_faults.Memory = ⊤
