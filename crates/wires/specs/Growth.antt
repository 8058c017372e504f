-- How the state of a `Wires` grows, and what its wires have.
use Rattle.std.specs.Prelude.{◌≡◌, ℕ, ◌-◌, ◌^◌, ◌<◌, ◌≤◌, min, List, length, slice_index, All, sum_by}
use Rattle.lanes.specs.Word.{AreWords}
use Rattle.wires.specs.Environment.{Environment, words}
use Rattle.wires.specs.declared.wire.Wire.{Wire}

-- a wire was made, where the shape has the lanes of each wire that was
abbrev pub IsMade : List ℕ → Wire → Type 0
IsMade shape wire = wire.0 < length shape

-- its number of lanes
abbrev pub lanes_of : List ℕ → Wire → ℕ
lanes_of shape wire = slice_index shape wire.0

-- each of these wires was made
abbrev pub AreMade : List ℕ → List Wire → Type 0
AreMade shape wires = All (λ wire. IsMade shape wire) wires

-- the lanes of several wires, one wire after the other
abbrev pub total_lanes : List ℕ → List Wire → ℕ
total_lanes shape wires = sum_by (λ wire. lanes_of shape wire) wires

-- a count that stands still at the last number of 64 bits
abbrev pub capped : ℕ → ℕ
capped n = min n (2 ^ 64 - 1)

-- earlier wires are kept, with their lanes
pub record KeepsWires (old new : List ℕ) : Type 0 where
  pub count : length old ≤ length new
  pub lanes : (k : ℕ) → k < length old → slice_index new k ≡ slice_index old k

-- a wire has so many words in an environment, fewer than 2 ^ 32
pub record HasLanes (v : Environment) (wire : Wire) (n : ℕ) : Type 0 where
  pub count : length (words v wire) ≡ n
  pub few : n < 2 ^ 32
  pub below : AreWords (words v wire)

-- a state has grown from another one; `follows` is the law that growth after growth is growth, at this state
pub record Grows {S : Type 0} (grown : S → S → Type 0) (possible : S → Environment → Type 0) (shape : S → List ℕ) (old new : S) : Type 0 where
  pub now : grown old new
  pub follows : (s : S) → grown s old → grown s new
  pub within : (v : Environment) → possible new v → possible old v
  pub keeps : KeepsWires (shape old) (shape new)

-- a wire was made with so many lanes, and in each possible environment it has this value
pub record Carries (possible : Environment → Type 0) (shape : List ℕ) (wire : Wire) (n : ℕ) (value_of : Environment → List ℕ) : Type 0 where
  pub made : IsMade shape wire
  pub lanes : lanes_of shape wire ≡ n
  pub value : (v : Environment) → possible v → words v wire ≡ value_of v
