-- How a core does a step: what is sent in a stage, by an outbox, and what a part must have for a step.
use Rattle.std.specs.Prelude.{◌≡◌, ℕ, ◌+◌, ◌*◌, ◌≤◌, ◌||◌, ⊤, Bool, false, List, Some, length, take, drop, IsTrue, if◌then◌else◌}
use Rattle.std.specs.Borrow.{Bor}
use Rattle.std.specs.List.{AllZip}
use Rattle.lanes.specs.declared.party.Party.{Party}
use Rattle.lanes.specs.declared.three.Three.{Three}
use Rattle.lanes.specs.Party.{next, before}
use Rattle.lanes.specs.Three.{at, each}
use Rattle.tapes.specs.Needs.{FitsNeeds}
use Rattle.step_lists.specs.declared.step.Shape.{Shape}
use Rattle.step_lists.specs.declared.step.LinOp.{LinOp}
use Rattle.step_lists.specs.declared.step.LinOp.TheVariants.{Xor, Not, Left, Right, Mask, Spread, Gather}
use Rattle.step_lists.specs.declared.step.Step.{Step}
use Rattle.step_lists.specs.declared.step.Step.TheVariants.{Const, Lin, And, Share, Reveal, Steer, Tell, Work, Flag}
use Rattle.step_lists.specs.Draws.{needs_of, parties, words_in}
use Rattle.step_lists.specs.Layout.{Layout, party_of}
use Rattle.step_lists.specs.Rules.{is_fine}
use Rattle.step_lists.specs.Seen.{same_party}
use Rattle.step_lists.specs.Shapes.{HasLength, HaveShapes}
use Rattle.step_lists.specs.Part.{Pair, Part, Given, pair_at}
use Rattle.party_core.specs.Calls.{Posted}
use Rattle.party_core.specs.CoreView.{CoreView, next_step, layout_here, given_for}
use Rattle.party_core.specs.Core.{part_so_far}
use Rattle.party_core.specs.Reached.{IsReached}
use Rattle.party_core.specs.declared.places.Places.{Places}
use Rattle.party_core.specs.declared.state.Side.{Side}
use Rattle.party_core.specs.declared.state.Side.TheVariants.{Own, Following}

abbrev pub slices : Three (Bor (List ℕ)) → Three (List ℕ)
slices x = each (λ b. b.now) x

-- an outbox with what a party sends each party
abbrev pub posted_of : Party → Three (List ℕ) → Posted
posted_of v words = record { next = at (next v) words; previous = at (before v) words }

-- one of the two shares of a register
abbrev pub share_at : Side → Part → ℕ → List ℕ
share_at Own a r = (pair_at a r).own
share_at Following a r = (pair_at a r).following

-- ---- what single steps need

-- the four shares and the two masks of an And have one length
pub record IsMasked (a : Part) (left right : ℕ) (g : Given) : Type 0 where
  pub following : length (pair_at a left).following ≡ length (pair_at a left).own
  pub other : length (pair_at a right).own ≡ length (pair_at a left).own
  pub other_following : length (pair_at a right).following ≡ length (pair_at a left).own
  pub mask : length (words_in g.own) ≡ length (pair_at a left).own
  pub other_mask : length (words_in g.following) ≡ length (pair_at a left).own

-- a shift is by at most 63
abbrev pub IsShift : LinOp → Type 0
IsShift (Left r by) = by ≤ 63
IsShift (Right r by) = by ≤ 63
IsShift (Xor a b) = ⊤
IsShift (Not r) = ⊤
IsShift (Mask r word) = ⊤
IsShift (Spread r) = ⊤
IsShift (Gather sources places) = ⊤

-- ---- a part that is ready for a step

-- two shares of so many words each
pub record IsPairOf (n : ℕ) (p : Pair) : Type 0 where
  pub own : HasLength n p.own
  pub following : HasLength n p.following

-- pairs, slots and flags are those of a layout
pub record IsFitting (v : Party) (l : Layout) (a : Part) : Type 0 where
  pub pairs : AllZip IsPairOf l.registers a.pairs
  pub slots : HaveShapes (at v l.slots) a.slots
  pub few : a.flags ≤ l.flags

-- a step that may come next, and its draws
pub record IsReady {T : Type 0} (accepts : T → List Shape → List Shape → Bool) (v : Party) (l : Layout) (s : Step T) (a : Part) (g : Given) : Type 0 where
  pub fine : IsTrue (is_fine accepts l s)
  pub fits : IsFitting v l a
  pub own : FitsNeeds (at v (needs_of l s)) g.own
  pub following : FitsNeeds (at (next v) (needs_of l s)) g.following

-- ---- steps of one stage or none

abbrev pub IsOnce : {T : Type 0} → Step T → Type 0
IsOnce (Reveal to moved shown) = ⊥
IsOnce (Steer by slot moved) = ⊥
IsOnce (Const words) = ⊤
IsOnce (Lin op) = ⊤
IsOnce (And left right) = ⊤
IsOnce (Share party slot) = ⊤
IsOnce (Tell source target slot) = ⊤
IsOnce (Work party task takes gives) = ⊤
IsOnce (Flag party slot) = ⊤

-- ---- how many draws of a tape a step takes that is about n words

abbrev pub steer_draws : Party → Party → ℕ → ℕ
steer_draws tape by words = if same_party tape by then words else (if same_party tape (next by) then words + 1 else words + words)

abbrev pub draws_by : {T : Type 0} → Party → Step T → ℕ → ℕ
draws_by tape (Const words) n = 0
draws_by tape (Lin op) n = 0
draws_by tape (And left right) n = n
draws_by tape (Share party slot) n = if same_party tape (party_of party) || same_party tape (next (party_of party)) then n else 0
draws_by tape (Reveal to moved shown) n = length moved * n + length moved * n + 1
draws_by tape (Steer by slot moved) n = steer_draws tape (party_of by) (length moved * n)
draws_by tape (Tell source target slot) n = 0
draws_by tape (Work party task takes gives) n = 0
draws_by tape (Flag party slot) n = 0

-- what is given for a step, by the places where it begins and how many draws it takes
abbrev pub portion_of : Given → Places → ℕ → ℕ → Given
portion_of g places own following = record {
  own = take own (drop places.own g.own);
  following = take following (drop places.following g.following);
  received = parties (λ p. drop (at p places.received) (at p g.received));
}

abbrev pub portion_here : {T : Type 0} → Given → Places → Party → Step T → ℕ → Given
portion_here g places v s n = portion_of g places (draws_by v s n) (draws_by (next v) s n)

-- a core that goes on is ready for its next step, with what is given for it
abbrev pub CoresAreReady : {T : Type 0} → (T → List Shape → List Shape → Bool) → (T → List (List ℕ) → List (List ℕ)) → Type 0
CoresAreReady {T} accepts answer =
    (c : CoreView T) (s : Step T) → IsReached accepts answer c → (part_so_far answer c).stop ≡ false → next_step c ≡ Some s
    → IsReady accepts c.party (layout_here c) s (part_so_far answer c) (given_for c s)
