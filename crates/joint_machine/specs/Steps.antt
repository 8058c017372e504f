-- What each step makes of a machine, by the words that it draws.
use Rattle.std.specs.Prelude.{◌≡◌, ℕ, List, [], ◌∷◌, ◌++◌, length, map, slice_index, slice_index_or}
use Rattle.lanes.specs.declared.party.Party.{Party}
use Rattle.lanes.specs.Party.{next, before}
use Rattle.lanes.specs.SharedAnd.{and_shares}
use Rattle.lanes.specs.Three.{at, put, each, opened}
use Rattle.step_lists.specs.Draws.{ThreeTapes, nothing, words_in, order_in}
use Rattle.step_lists.specs.Machine.{Machine, shares, slot_of, with_shares, and_words, to_both, given_share, dealt, delivered, with_more_slots, moving, third_phase, private_phase, shown_shares, reveal_words, steer_words}
use Rattle.step_lists.specs.Phases.{Shares, message, behind_on, reshared_all, there_all, back_all}

-- an and, under these masks
abbrev pub IsAnd : Machine → ℕ → ℕ → Shares → Machine → Type 0
IsAnd m left right masks new =
    new ≡ delivered (and_words (and_shares (shares m left) (shares m right) masks)) (with_shares m (and_shares (shares m left) (shares m right) masks ∷ []))

-- the words that a party draws of its own tape and of the next one
abbrev pub two_masks : Party → List ℕ → List ℕ → Shares
two_masks p own following = put p own (put (next p) following nothing)

-- a share, under these masks
abbrev pub IsShare : Machine → Party → ℕ → List ℕ → List ℕ → Machine → Type 0
IsShare m p slot own following new =
    new ≡ delivered (to_both p (given_share p (slot_of m p slot) (two_masks p own following)))
    (with_shares m (dealt p (slot_of m p slot) (two_masks p own following) ∷ []))

-- registers behind a phase, and what its two parties send
pub record IsTurned (j : Party) (order : List ℕ) (ss : List Shares) (mask other : List ℕ) (turned : List Shares) (out in_return : List ℕ) : Type 0 where
  pub made : turned ≡ reshared_all j order (length order) ss mask other
  pub there : out ≡ there_all j order (length order) ss mask
  pub back : in_return ≡ back_all j order (length order) ss other

-- a phase: the new registers, and the machine behind it
pub record IsPhase (m : Machine) (j : Party) (order : List ℕ) (ss : List Shares) (mask other : List ℕ) (turned : List Shares) (new : Machine) : Type 0 where
  pub made : turned ≡ reshared_all j order (length order) ss mask other
  pub sent : new ≡ delivered (behind_on (message (before j) j (there_all j order (length order) ss mask)) (message j (before j) (back_all j order (length order) ss other))) m

-- of some registers those at these places
abbrev pub shown_of : List Shares → List ℕ → List Shares
shown_of ss shown = map (λ k. slice_index_or ss k nothing) shown

-- ---- Reveal

-- the order and the masks of a phase
pub record PhaseDraw : Type 0 where
  pub order : List ℕ
  pub mask : List ℕ
  pub other : List ℕ

abbrev pub drawn : List ℕ → List ℕ → List ℕ → PhaseDraw
drawn order mask other = record { order = order; mask = mask; other = other }

-- for w words in registers of n rows
pub record IsDrawnFor (n w : ℕ) (d : PhaseDraw) : Type 0 where
  pub order : length d.order ≡ n
  pub mask : length d.mask ≡ w
  pub other : length d.other ≡ w

-- three tapes with what three phases draw
pub record HoldPhases (ds : ThreeTapes) (one two three : PhaseDraw) : Type 0 where
  pub order_one : one.order ≡ order_in ds.first
  pub order_two : two.order ≡ order_in ds.second
  pub order_three : three.order ≡ order_in ds.third
  pub first : words_in ds.first ≡ two.mask ++ three.other
  pub second : words_in ds.second ≡ one.other ++ three.mask
  pub third : words_in ds.third ≡ one.mask ++ two.other

-- a reveal of registers of n rows
abbrev pub IsReveal : Machine → ℕ → Party → List ℕ → List ℕ → ThreeTapes → Machine → Type 0
IsReveal m n to moved shown ds new =
    new ≡ delivered (reveal_words to n shown ds (moving m moved ds))
    (with_more_slots (with_shares m (third_phase n ds (moving m moved ds)).shares) to (map opened (shown_shares (third_phase n ds (moving m moved ds)) shown)))

-- ---- Steer

-- three tapes with what the two phases of party p's Steer draw: of the private phase the masks alone
pub record HoldSteer (p : Party) (ds : ThreeTapes) (one : PhaseDraw) (mask other : List ℕ) : Type 0 where
  pub order : one.order ≡ order_in (at (next p) ds)
  pub own : words_in (at p ds) ≡ one.mask
  pub earlier : words_in (at (before p) ds) ≡ one.other ++ mask
  pub following : words_in (at (next p) ds) ≡ other

-- a steer of registers of n rows by the order g
abbrev pub IsSteer : Machine → ℕ → Party → List ℕ → List ℕ → ThreeTapes → Machine → Type 0
IsSteer m n p g moved ds new =
    new ≡ delivered (steer_words p g n ds (moving m moved ds)) (with_shares m (private_phase p g n ds (moving m moved ds)).shares)

-- ---- rows of registers

-- how many words each share of a register has, and those of registers that are moved together
abbrev pub register_rows : Machine → ℕ → ℕ
register_rows m r = length (shares m r).first

abbrev pub rows_of_all : Machine → List ℕ → ℕ
rows_of_all m moved = register_rows m (slice_index moved 0)

-- a share, by what the tapes hold for it
abbrev pub IsShared : Machine → Party → ℕ → ThreeTapes → Machine → Type 0
IsShared m p slot ds new =
    new ≡ delivered (to_both p (given_share p (slot_of m p slot) (each words_in ds))) (with_shares m (dealt p (slot_of m p slot) (each words_in ds) ∷ []))
