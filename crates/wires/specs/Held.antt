-- What contracts see of a `Clear`: the words of each wire, and a count.
use Rattle.std.specs.Prelude.{◌≡◌, ℕ, ◌+◌, ◌^◌, ◌<◌, ◌≤◌, List, [], ◌∷◌, ◌++◌, length, map}
use Rattle.std.specs.List.{flat_map}
use Rattle.std.specs.Prelude.{slice_index_or}
use Rattle.lanes.specs.Word.{AreWords}
use Rattle.wires.specs.Environment.{Environment}
use Rattle.wires.specs.Growth.{capped}
use Rattle.wires.specs.declared.wire.Wire.{Wire}

-- the words of each wire, and the AND words and AND calls spent
pub record Held : Type 0 where
  pub values : List (List ℕ)
  pub and_words : ℕ
  pub and_calls : ℕ

-- the lanes of each wire
abbrev pub held_shape : Held → List ℕ
held_shape held = map (λ words. length words) held.values

-- the words of a wire
abbrev pub value_of : Held → Wire → List ℕ
value_of held wire = slice_index_or held.values wire.0 []

-- the words of several wires, one wire after the other
abbrev pub values_of : Held → List Wire → List ℕ
values_of held wires = flat_map (λ wire. value_of held wire) wires

-- words of fewer than 2 ^ 32 lanes
pub record IsValue (words : List ℕ) : Type 0 where
  pub few : length words < 2 ^ 32
  pub below : AreWords words

-- the one environment: each wire has its words, fewer than 2 ^ 32
pub record IsAssignment (held : Held) (v : Environment) : Type 0 where
  pub same : (k : ℕ) → k < length held.values → v k ≡ slice_index_or held.values k []
  pub below : (k : ℕ) → k < length held.values → AreWords (v k)
  pub few : (k : ℕ) → k < length held.values → length (v k) < 2 ^ 32

-- later wires stand behind the earlier ones
pub record Extends (old new : Held) : Type 0 where
  pub count : length old.values ≤ length new.values
  pub same : (k : ℕ) → k < length old.values → slice_index_or new.values k [] ≡ slice_index_or old.values k []

-- a wire of these words was made, and nothing else changed
pub record Pushes (old new : Held) (words : List ℕ) (wire : Wire) : Type 0 where
  pub values : new.values ≡ old.values ++ words ∷ []
  pub number : wire.0 ≡ length old.values
  pub count : new.and_words ≡ old.and_words
  pub calls : new.and_calls ≡ old.and_calls

-- one more AND call, of so many AND words
abbrev pub spending : Held → ℕ → Held
spending held lanes = record { values = held.values; and_words = capped (held.and_words + lanes); and_calls = capped (held.and_calls + 1) }
