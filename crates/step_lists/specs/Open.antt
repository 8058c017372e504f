-- Open values: each register and slot as plain words, step by step. No shares, masks or messages.
use Rattle.std.specs.Prelude.{ℕ, suc, Bool, true, false, Option, Some, None, List, [], ◌∷◌, ◌++◌, map, slice_index, slice_index_or, if◌then◌else◌, ◌==◌}
use Rattle.lanes.specs.declared.party.Party.{Party}
use Rattle.lanes.specs.declared.three.Three.{Three}
use Rattle.lanes.specs.Three.{at, put}
use Rattle.lanes.specs.Lanes.{ands}
use Rattle.tapes.specs.Order.{applied}
use Rattle.step_lists.specs.Layout.{Step, Const, Lin, And, Share, Reveal, Steer, Tell, Work, Flag, Steps, Layout, party_of, starting}
use Rattle.step_lists.specs.Draws.{ThreeTapes, order_in}
use Rattle.step_lists.specs.Run.{run, tape_cut}
use Rattle.step_lists.specs.Lin.{lin}

-- slots of each party
abbrev pub SlotWords : Type 0
SlotWords = Three (List (List ℕ))

-- registers, slots, how many flags were passed, and whether the next one stopped the run
pub record Open : Type 0 where
  pub registers : List (List ℕ)
  pub slots : SlotWords
  pub flags : ℕ
  pub stop : Bool

-- a list of words by its number, empty where there is none
abbrev pub item : List (List ℕ) → ℕ → List ℕ
item xs k = slice_index_or xs k []

abbrev pub register : Open → ℕ → List ℕ
register o r = item o.registers r

abbrev pub slot : Open → Party → ℕ → List ℕ
slot o p s = item (at p o.slots) s

abbrev pub with_registers : Open → List (List ℕ) → Open
with_registers o more = record o { registers = o.registers ++ more }

abbrev pub more_slots : Party → List (List ℕ) → SlotWords → SlotWords
more_slots p more slots = put p (at p slots ++ more) slots

abbrev pub with_slots : Open → Party → List (List ℕ) → Open
with_slots o p more = record o { slots = more_slots p more o.slots }

-- the orders that a Reveal drew of the three tapes, one after the other
abbrev pub turned : ThreeTapes → List ℕ → List ℕ
turned ds xs = applied (order_in ds.third) (applied (order_in ds.second) (applied (order_in ds.first) xs))

-- a flag whose word isn't 0 stops the run
abbrev pub after_flag : Open → List ℕ → Open
after_flag o ws = if slice_index ws 0 == 0 then record o { flags = suc o.flags } else record o { stop = true }

module _ {T : Type 0} (answer : T → List (List ℕ) → List (List ℕ)) where
  abbrev pub open_step : Open → Step T → ThreeTapes → Open
  open_step o (Const words) ds = with_registers o (words ∷ [])
  open_step o (Lin op) ds = with_registers o (lin op (register o) ∷ [])
  open_step o (And left right) ds = with_registers o (ands (register o left) (register o right) ∷ [])
  open_step o (Share party s) ds = with_registers o (slot o (party_of party) s ∷ [])
  open_step o (Reveal to moved shown) ds =
      with_slots (with_registers o (map (λ r. turned ds (register o r)) moved)) (party_of to)
      (map (λ k. item (map (λ r. turned ds (register o r)) moved) k) shown)
  open_step o (Steer by s moved) ds = with_registers o (map (λ r. applied (slot o (party_of by) s) (register o r)) moved)
  open_step o (Tell source target s) ds = with_slots o (party_of target) (slot o (party_of source) s ∷ [])
  open_step o (Work party task takes gives) ds = with_slots o (party_of party) (answer task (map (slot o (party_of party)) takes))
  open_step o (Flag party s) ds = after_flag o (slot o (party_of party) s)

  -- nothing is done after a stop
  abbrev pub open_going : Layout → Open → Step T → ThreeTapes → Open
  open_going l o s ds = if o.stop then o else open_step o s ds

abbrev pub opening : SlotWords → Open
opening slots = record { registers = []; slots = slots; flags = 0; stop = false }

-- the open values behind a list
abbrev pub open_of : {T : Type 0} → (T → List (List ℕ) → List (List ℕ)) → Steps T → SlotWords → ThreeTapes → Open
open_of answer list slots ds = run (open_going answer) tape_cut (starting list.first) (opening slots) list.steps ds

-- the number, among the flags, of the one that stopped a run
abbrev pub stopped_at : Bool → ℕ → Option ℕ
stopped_at stop flags = if stop then Some flags else None
