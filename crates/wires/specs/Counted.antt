-- What contracts see of a `Tally`: the lanes of each wire, and a count.
use Rattle.std.specs.Prelude.{◌≡◌, ℕ, ◌+◌, List, [], ◌∷◌, ◌++◌, length}
use Rattle.wires.specs.Environment.{Environment}
use Rattle.wires.specs.Growth.{KeepsWires, capped}
use Rattle.wires.specs.declared.wire.Wire.{Wire}

-- the lanes of each wire, and the AND words and AND calls spent
pub record Counted : Type 0 where
  pub lanes : List ℕ
  pub and_words : ℕ
  pub and_calls : ℕ

-- no environment is possible
abbrev pub IsNoAssignment : Counted → Environment → Type 0
IsNoAssignment counted v = ⊥

-- later wires stand behind the earlier ones
abbrev pub KeepsLanes : Counted → Counted → Type 0
KeepsLanes old new = KeepsWires old.lanes new.lanes

-- a wire of so many lanes was made, and nothing else changed
pub record Made (old new : Counted) (lanes : ℕ) (wire : Wire) : Type 0 where
  pub wires : new.lanes ≡ old.lanes ++ lanes ∷ []
  pub number : wire.0 ≡ length old.lanes
  pub count : new.and_words ≡ old.and_words
  pub calls : new.and_calls ≡ old.and_calls

-- one more AND call, of so many AND words
abbrev pub charging : Counted → ℕ → Counted
charging counted lanes = record { lanes = counted.lanes; and_words = capped (counted.and_words + lanes); and_calls = capped (counted.and_calls + 1) }
