-- The joint machine: three shares of each register, each party's slots and the words on six links, all three parties
-- in lockstep.
use Rattle.std.specs.Prelude.{ℕ, suc, Bool, true, false, List, [], ◌∷◌, ◌++◌, length, map, replicate, slice_index, slice_index_or, if◌then◌else◌, ◌==◌}
use Rattle.std.specs.List.{flat_map}
use Rattle.lanes.specs.declared.party.Party.{Party}
use Rattle.lanes.specs.declared.party.Party.TheVariants.{First, Second, Third}
use Rattle.lanes.specs.declared.three.Three.{Three}
use Rattle.lanes.specs.Party.{next, before}
use Rattle.lanes.specs.Three.{at, put, each, opened}
use Rattle.lanes.specs.Lanes.{xors}
use Rattle.lanes.specs.SharedAnd.{and_shares}
use Rattle.tapes.specs.Order.{composed, inverse_of}
use Rattle.step_lists.specs.Layout.{Step, Const, Lin, And, Share, Reveal, Steer, Tell, Work, Flag, Steps, Layout, party_of, starting, rows_moved}
use Rattle.step_lists.specs.Draws.{ThreeTapes, parties, nothing, words_in, order_in}
use Rattle.step_lists.specs.Run.{run, tape_cut}
use Rattle.step_lists.specs.Lin.{lin_share}
use Rattle.step_lists.specs.Open.{SlotWords, item, more_slots}
use Rattle.step_lists.specs.Phases.{Shares, Links, no_words, message, behind_on, link, Moving, phase, phase_words}

pub record Machine : Type 0 where
  pub registers : List Shares
  pub slots : SlotWords
  pub links : Links
  pub flags : ℕ
  pub stop : Bool

abbrev pub shares : Machine → ℕ → Shares
shares m r = slice_index_or m.registers r nothing

abbrev pub slot_of : Machine → Party → ℕ → List ℕ
slot_of m p s = item (at p m.slots) s

abbrev pub with_shares : Machine → List Shares → Machine
with_shares m more = record m { registers = m.registers ++ more }

abbrev pub with_more_slots : Machine → Party → List (List ℕ) → Machine
with_more_slots m p more = record m { slots = more_slots p more m.slots }

-- ---- what the steps make

-- the first share of words that all know; the others are zeros
abbrev pub const_share : Party → List ℕ → List ℕ
const_share First words = words
const_share Second words = replicate (length words) 0
const_share Third words = replicate (length words) 0

-- the share that a party gives away of words that it shares: of the two that it keeps, each is drawn
abbrev pub given_share : Party → List ℕ → Three (List ℕ) → List ℕ
given_share p words r = xors (xors words (at p r)) (at (next p) r)

abbrev pub dealt : Party → List ℕ → Three (List ℕ) → Shares
dealt p words r = put (before p) (given_share p words r) r

-- registers that are moved, with what the step drew
abbrev pub moving : Machine → List ℕ → ThreeTapes → Moving
moving m moved ds = record { shares = map (shares m) moved; masks = each words_in ds }

-- a Reveal's three phases, each with the order drawn of its tape
abbrev pub first_phase : ℕ → ThreeTapes → Moving → Moving
first_phase n ds x = phase First (order_in ds.first) n x

abbrev pub second_phase : ℕ → ThreeTapes → Moving → Moving
second_phase n ds x = phase Second (order_in ds.second) n (first_phase n ds x)

abbrev pub third_phase : ℕ → ThreeTapes → Moving → Moving
third_phase n ds x = phase Third (order_in ds.third) n (second_phase n ds x)

-- of each shown register the three shares, behind the phases
abbrev pub shown_shares : Moving → List ℕ → List Shares
shown_shares x shown = map (λ k. slice_index_or x.shares k nothing) shown

-- what p sends in a Steer: its private order g behind the inverse of the order that is drawn
abbrev pub steer_order : Party → List ℕ → ThreeTapes → List ℕ
steer_order p g ds = composed (inverse_of (order_in (at (next p) ds))) g

-- a Steer's two phases
abbrev pub drawn_phase : Party → ℕ → ThreeTapes → Moving → Moving
drawn_phase p n ds x = phase (next p) (order_in (at (next p) ds)) n x

abbrev pub private_phase : Party → List ℕ → ℕ → ThreeTapes → Moving → Moving
private_phase p g n ds x = phase p (steer_order p g ds) n (drawn_phase p n ds x)

abbrev pub machine_flag : Machine → List ℕ → Machine
machine_flag m ws = if slice_index ws 0 == 0 then record m { flags = suc m.flags } else record m { stop = true }

module _ {T : Type 0} (answer : T → List (List ℕ) → List (List ℕ)) where
  -- registers, slots, flags and stop behind a step
  abbrev pub machine_step : Layout → Machine → Step T → ThreeTapes → Machine
  machine_step l m (Const words) ds = with_shares m (parties (λ i. const_share i words) ∷ [])
  machine_step l m (Lin op) ds = with_shares m (parties (λ i. lin_share i op (λ r. at i (shares m r))) ∷ [])
  machine_step l m (And left right) ds = with_shares m (and_shares (shares m left) (shares m right) (each words_in ds) ∷ [])
  machine_step l m (Share party s) ds = with_shares m (dealt (party_of party) (slot_of m (party_of party) s) (each words_in ds) ∷ [])
  machine_step l m (Reveal to moved shown) ds =
      with_more_slots (with_shares m (third_phase (rows_moved l moved) ds (moving m moved ds)).shares) (party_of to)
      (map opened (shown_shares (third_phase (rows_moved l moved) ds (moving m moved ds)) shown))
  machine_step l m (Steer by s moved) ds =
      with_shares m (private_phase (party_of by) (slot_of m (party_of by) s) (rows_moved l moved) ds (moving m moved ds)).shares
  machine_step l m (Tell source target s) ds = with_more_slots m (party_of target) (slot_of m (party_of source) s ∷ [])
  machine_step l m (Work party task takes gives) ds = with_more_slots m (party_of party) (answer task (map (slot_of m (party_of party)) takes))
  machine_step l m (Flag party s) ds = machine_flag m (slot_of m (party_of party) s)

-- ---- what the steps send

-- each party sends its new share to the one before it
abbrev pub and_words : Shares → Links
and_words z =
    behind_on (message First Third z.first) (behind_on (message Second First z.second) (message Third Second z.third))

-- words to both others
abbrev pub to_both : Party → List ℕ → Links
to_both p words = behind_on (message p (next p) words) (message p (before p) words)

-- three phases, and then of each shown register the share that q misses
abbrev pub reveal_words : Party → ℕ → List ℕ → ThreeTapes → Moving → Links
reveal_words q n shown ds x =
    behind_on (phase_words First (order_in ds.first) n x)
    (behind_on (phase_words Second (order_in ds.second) n (first_phase n ds x))
    (behind_on (phase_words Third (order_in ds.third) n (second_phase n ds x))
    (message (next q) q (flat_map (at (before q)) (shown_shares (third_phase n ds x) shown)))))

-- the order, and two phases
abbrev pub steer_words : Party → List ℕ → ℕ → ThreeTapes → Moving → Links
steer_words p g n ds x =
    behind_on (message p (before p) (steer_order p g ds))
    (behind_on (phase_words (next p) (order_in (at (next p) ds)) n x) (phase_words p (steer_order p g ds) n (drawn_phase p n ds x)))

abbrev pub step_words : {T : Type 0} → Layout → Machine → Step T → ThreeTapes → Links
step_words l m (Const words) ds = no_words
step_words l m (Lin op) ds = no_words
step_words l m (And left right) ds = and_words (and_shares (shares m left) (shares m right) (each words_in ds))
step_words l m (Share party s) ds = to_both (party_of party) (given_share (party_of party) (slot_of m (party_of party) s) (each words_in ds))
step_words l m (Reveal to moved shown) ds = reveal_words (party_of to) (rows_moved l moved) shown ds (moving m moved ds)
step_words l m (Steer by s moved) ds = steer_words (party_of by) (slot_of m (party_of by) s) (rows_moved l moved) ds (moving m moved ds)
step_words l m (Tell source target s) ds = message (party_of source) (party_of target) (slot_of m (party_of source) s)
step_words l m (Work party task takes gives) ds = no_words
step_words l m (Flag party s) ds = to_both (party_of party) (slot_of m (party_of party) s)

-- ---- the run

-- before the first step
abbrev pub before_steps : SlotWords → Machine
before_steps slots = record { registers = []; slots = slots; links = no_words; flags = 0; stop = false }

abbrev pub delivered : Links → Machine → Machine
delivered words m = record m { links = behind_on m.links words }

module _ {T : Type 0} (answer : T → List (List ℕ) → List (List ℕ)) where
  -- nothing is done or sent after a stop
  abbrev pub joint_going : Layout → Machine → Step T → ThreeTapes → Machine
  joint_going l m s ds = if m.stop then m else delivered (step_words l m s ds) (machine_step answer l m s ds)

  abbrev pub joint_of : Steps T → SlotWords → ThreeTapes → Machine
  joint_of list slots ds = run joint_going tape_cut (starting list.first) (before_steps slots) list.steps ds

-- the view of a party: the words on the links to it from the next party and from the one before
pub record View : Type 0 where
  pub from_next : List ℕ
  pub from_before : List ℕ

abbrev pub view_of : Party → Machine → View
view_of v m = record { from_next = link (next v) v m.links; from_before = link (before v) v m.links }
