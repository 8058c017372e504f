-- Slots and tapes that fit a list, environments under which it doesn't stop, and lists that stand in others.
use Rattle.std.specs.Prelude.{◌≡◌, ℕ, ◌+◌, ⊤, false, List, [], ◌∷◌, ◌++◌, length, map}
use Rattle.std.specs.List.{AllByRecursion}
use Rattle.lanes.specs.declared.party.Party.{Party}
use Rattle.lanes.specs.declared.three.Three.{Three}
use Rattle.lanes.specs.Three.{at}
use Rattle.lanes.specs.Word.{AreWords}
use Rattle.tapes.specs.declared.draw.Draw.{Draw}
use Rattle.tapes.specs.declared.draw.Need.{Need}
use Rattle.tapes.specs.Needs.{Meets, FitsNeeds}
use Rattle.step_lists.specs.Layout.{Step, Const, Lin, And, Share, Reveal, Steer, Tell, Work, Flag, Steps, Layout, starting, grown, length_of}
use Rattle.step_lists.specs.Draws.{ThreeTapes, needs}
use Rattle.step_lists.specs.Open.{SlotWords, open_of}

-- the first draws are of the needed sorts
abbrev pub FitsFront : List Need → List Draw → Type 0
FitsFront [] ds = ⊤
FitsFront (n ∷ ns) [] = ⊥
FitsFront (n ∷ ns) (d ∷ ds) = Meets n d × FitsFront ns ds

-- the first slots have the list's lengths, and their words are below 2 ^ 64
pub record SlotsFit (first : Three (List ℕ)) (slots : SlotWords) : Type 0 where
  pub long : (p : Party) → map length (at p slots) ≡ at p first
  pub below : (p : Party) → AllByRecursion AreWords (at p slots)

-- slots, and tapes of which a front fits, whether or not the run stops
pub record Fits {T : Type 0} (list : Steps T) (slots : SlotWords) (ds : ThreeTapes) : Type 0 where
  pub slots_fit : SlotsFit list.first slots
  pub tapes_fit : (p : Party) → FitsFront (needs p (starting list.first) list.steps) (at p ds)

-- the tapes fit whole, with no draw too many
abbrev pub TapesFit : {T : Type 0} → Steps T → ThreeTapes → Type 0
TapesFit list ds = (p : Party) → FitsNeeds (needs p (starting list.first) list.steps) (at p ds)

-- an environment of a list: slots and tapes that fit, under which it doesn't stop
pub record Possible {T : Type 0} (answer : T → List (List ℕ) → List (List ℕ)) (list : Steps T) (slots : SlotWords) (ds : ThreeTapes) : Type 0 where
  pub fits : Fits list slots ds
  pub going : (open_of answer list slots ds).stop ≡ false

-- more steps behind a list
abbrev pub behind : {T : Type 0} → Steps T → List (Step T) → Steps T
behind list more = record { first = list.first; steps = list.steps ++ more }

-- a list begins a longer one
pub record StandsIn {T : Type 0} (a b : Steps T) : Type 0 where
  pub more : List (Step T)
  pub is : b ≡ behind a more

-- ---- the AND words

abbrev pub ands_of : {T : Type 0} → Layout → Step T → ℕ
ands_of l (And left right) = length_of l left
ands_of l (Const words) = 0
ands_of l (Lin op) = 0
ands_of l (Share party slot) = 0
ands_of l (Reveal to moved shown) = 0
ands_of l (Steer by slot moved) = 0
ands_of l (Tell source target slot) = 0
ands_of l (Work party task takes gives) = 0
ands_of l (Flag party slot) = 0

abbrev pub ands_behind : {T : Type 0} → Layout → List (Step T) → ℕ
ands_behind l [] = 0
ands_behind l (s ∷ ss) = ands_of l s + ands_behind (grown l s) ss

-- the sum of the lengths of a list's And steps
abbrev pub ands_in : {T : Type 0} → Steps T → ℕ
ands_in list = ands_behind (starting list.first) list.steps
