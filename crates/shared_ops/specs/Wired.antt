-- Lists of wires that a loop makes, one after the other.
use Rattle.std.specs.Prelude.{◌≡◌, ℕ, ◌+◌, ◌≤◌, List, Some, length, slice_get}
use Rattle.wires.specs.Environment.{Environment}
use Rattle.wires.specs.Growth.{Carries, Grows}
use Rattle.wires.specs.declared.wire.Wire.{Wire}

-- each wire was made with so many lanes, and has the value of its number
pub record AreWired (possible : Environment → Type 0) (shape : List ℕ) (wires : List Wire) (lanes : ℕ) (value : ℕ → Environment → List ℕ) : Type 0 where
  pub each : (k : ℕ) (wire : Wire) → slice_get wires k ≡ Some wire → Carries possible shape wire lanes (value k)

-- so many of them so far, grown from the first state at no more than so many AND words
pub record Wiring {S : Type 0} (grown : S → S → Type 0) (possible : S → Environment → Type 0) (shape : S → List ℕ) (ands : S → ℕ)
    (first now : S) (wires : List Wire) (lanes : ℕ) (value : ℕ → Environment → List ℕ) (at cost : ℕ) : Type 0 where
  pub grows : Grows grown possible shape first now
  pub so_far : AreWired (possible now) (shape now) wires lanes value
  pub count : length wires ≡ at
  pub spent : ands now ≤ ands first + cost

-- one wire so far, grown from the first state at no more than so many AND words
pub record Building {S : Type 0} (grown : S → S → Type 0) (possible : S → Environment → Type 0) (shape : S → List ℕ) (ands : S → ℕ)
    (first now : S) (wire : Wire) (lanes : ℕ) (value : Environment → List ℕ) (cost : ℕ) : Type 0 where
  pub grows : Grows grown possible shape first now
  pub carries : Carries (possible now) (shape now) wire lanes value
  pub spent : ands now ≤ ands first + cost
