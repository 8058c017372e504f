-- Copies of columns, wire by wire.
use Rattle.std.specs.Prelude.{◌≡◌, ℕ, ◌+◌, ◌*◌, ◌≤◌, List, Some, length, slice_get}
use Rattle.wires.specs.Environment.{Environment, words}
use Rattle.wires.specs.Growth.{Carries, Grows}
use Rattle.wires.specs.declared.wire.Wire.{Wire}
use Rattle.circuits.specs.Runs.{runs_copied}

-- each wire has the words of its column's runs' first lanes
pub record AreCopies (possible : Environment → Type 0) (shape : List ℕ) (joined : Wire) (columns copies : List Wire) (n : ℕ) : Type 0 where
  pub each : (k : ℕ) (column copy : Wire) → slice_get columns k ≡ Some column → slice_get copies k ≡ Some copy
      → Carries possible shape copy n (λ v. runs_copied (words v joined) (words v column))

-- the copies of so many columns, each at no more than so many AND words
pub record Copying {S : Type 0} (grown : S → S → Type 0) (possible : S → Environment → Type 0) (shape : S → List ℕ) (ands : S → ℕ)
    (first now : S) (joined : Wire) (columns copies : List Wire) (n cost at : ℕ) : Type 0 where
  pub grows : Grows grown possible shape first now
  pub so_far : AreCopies (possible now) (shape now) joined columns copies n
  pub count : length copies ≡ at
  pub spent : ands now ≤ ands first + at * cost
