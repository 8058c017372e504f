-- What steps take of tapes that are read from the front, and what is left of them.
use Rattle.std.specs.Prelude.{◌≡◌, ℕ, ◌*◌, List, [], ◌∷◌, ◌++◌, Option, Some, None, IsSome, length, take, drop}
use Rattle.lanes.specs.declared.party.Party.{Party}
use Rattle.lanes.specs.declared.three.Three.{Three}
use Rattle.lanes.specs.Party.{next}
use Rattle.lanes.specs.Three.{at, each}
use Rattle.tapes.specs.declared.draw.Need.{Need}
use Rattle.tapes.specs.declared.draw.Draw.{Draw}
use Rattle.tapes.specs.declared.draw.Draw.TheVariants.{Word, Order}
use Rattle.tapes.specs.declared.tape.Tapes.{Tapes}
use Rattle.tapes.specs.Needs.{FitsNeeds}
use Rattle.tapes.specs.Reading.{Reading, first_words}
use Rattle.step_lists.specs.Draws.{ThreeTapes, joined, needs_words, needs_reveal, needs_steer, words_in, order_in, taken, dropped}
use Rattle.joint_machine.specs.Steps.{PhaseDraw, IsDrawnFor, HoldPhases, HoldSteer}

-- the draws of a reader from the next one on
abbrev pub left : Reading → List Draw
left r = drop r.place r.draws

abbrev pub lefts : Three Reading → ThreeTapes
lefts readers = each left readers

-- the draws of three tapes
abbrev pub draws_of : Tapes → ThreeTapes
draws_of tapes = record { first = tapes.first; second = tapes.second; third = tapes.third }

-- the order that draws begin with, where the first one is an order
abbrev pub first_order : List Draw → Option (List ℕ)
first_order [] = None
first_order (Word w ∷ ds) = None
first_order (Order o ∷ ds) = Some o

-- draws that begin with so many words
abbrev pub HasWords : ℕ → List Draw → Type 0
HasWords n ds = IsSome (first_words n ds)

-- draws that begin with an order
abbrev pub HasOrder : List Draw → Type 0
HasOrder ds = IsSome (first_order ds)

-- these needs come next
abbrev pub IsNext : List Need → List Draw → Type 0
IsNext ns ds = (rest : List Need) × FitsNeeds (ns ++ rest) ds

abbrev pub AreNext : Three (List Need) → ThreeTapes → Type 0
AreNext ns ds = (p : Party) → IsNext (at p ns) (at p ds)

-- the words and the first order of as many draws as there are needs, and what is left behind them
pub record Takes (ns : List Need) (ds : List Draw) (ws o : List ℕ) (rest : List Draw) : Type 0 where
  pub words : words_in (take (length ns) ds) ≡ ws
  pub order : order_in (take (length ns) ds) ≡ o
  pub left : drop (length ns) ds ≡ rest

-- what a Share of party p draws
abbrev pub needs_share : Party → ℕ → Three (List Need)
needs_share p n = joined (needs_words p n) (needs_words (next p) n)

pub record IsShareDraw (p : Party) (n : ℕ) (ds : ThreeTapes) (own following : List ℕ) (rest : ThreeTapes) : Type 0 where
  pub own_long : length own ≡ n
  pub following_long : length following ≡ n
  pub own_is : own ≡ words_in (at p (taken (needs_share p n) ds))
  pub following_is : following ≡ words_in (at (next p) (taken (needs_share p n) ds))
  pub left : rest ≡ dropped (needs_share p n) ds

-- what a Reveal of m registers of n rows draws
pub record IsRevealDraw (m n : ℕ) (ds : ThreeTapes) (one two three : PhaseDraw) (rest : ThreeTapes) : Type 0 where
  pub one_long : IsDrawnFor n (m * n) one
  pub two_long : IsDrawnFor n (m * n) two
  pub three_long : IsDrawnFor n (m * n) three
  pub holds : HoldPhases (taken (needs_reveal m n) ds) one two three
  pub left : rest ≡ dropped (needs_reveal m n) ds

-- what a Steer of party p draws
pub record IsSteerDraw (p : Party) (m n : ℕ) (ds : ThreeTapes) (one : PhaseDraw) (mask other : List ℕ) (rest : ThreeTapes) : Type 0 where
  pub one_long : IsDrawnFor n (m * n) one
  pub mask_long : length mask ≡ m * n
  pub other_long : length other ≡ m * n
  pub holds : HoldSteer p (taken (needs_steer p m n) ds) one mask other
  pub left : rest ≡ dropped (needs_steer p m n) ds
