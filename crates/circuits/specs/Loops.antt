-- What the loops over levels keep.
use Rattle.std.specs.Prelude.{ℕ, ◌+◌, ◌*◌, ◌≤◌, List, length}
use Rattle.lanes.specs.Prefix.{span_after}
use Rattle.lanes.specs.CarrySave.{saved_terms}
use Rattle.lanes.specs.Lanes.{lanewise}
use Rattle.wires.specs.Environment.{Environment, words}
use Rattle.wires.specs.Growth.{Carries, Grows}
use Rattle.wires.specs.declared.wire.Wire.{Wire}

-- a wire so far, grown from the first state at no more than so many AND words a lane
pub record Building {S : Type 0} (grown : S → S → Type 0) (possible : S → Environment → Type 0) (shape : S → List ℕ) (ands : S → ℕ)
    (first now : S) (wire : Wire) (n : ℕ) (value_of : Environment → List ℕ) (cost : ℕ) : Type 0 where
  pub grows : Grows grown possible shape first now
  pub carries : Carries (possible now) (shape now) wire n value_of
  pub spent : ands now ≤ ands first + cost * n

-- the AND calls and the wires since the first state are at most so many
pub record Within {S : Type 0} (shape : S → List ℕ) (and_calls : S → ℕ) (first now : S) (calls wires : ℕ) : Type 0 where
  pub called : and_calls now ≤ and_calls first + calls
  pub made : length (shape now) ≤ length (shape first) + wires

-- the spans of blocks of 2 ^ level places of a sum, at one AND word a lane and one more a level
pub record Spanning {S : Type 0} (grown : S → S → Type 0) (possible : S → Environment → Type 0) (shape : S → List ℕ) (ands : S → ℕ)
    (first now : S) (left right generate_wire propagate_wire : Wire) (n level : ℕ) : Type 0 where
  pub grows : Grows grown possible shape first now
  pub generate : Carries (possible now) (shape now) generate_wire n (λ v. lanewise (λ x y. (span_after level x y).generate) (words v left) (words v right))
  pub propagate : Carries (possible now) (shape now) propagate_wire n (λ v. lanewise (λ x y. (span_after level x y).propagate) (words v left) (words v right))
  pub spent : ands now ≤ ands first + (1 + level) * n

-- the first two terms of a product and so many more as two words, at one AND word a lane for a term and one for each
-- that was added
pub record Saving {S : Type 0} (grown : S → S → Type 0) (possible : S → Environment → Type 0) (shape : S → List ℕ) (ands : S → ℕ)
    (first now : S) (left right sum_wire carry_wire : Wire) (n more : ℕ) : Type 0 where
  pub grows : Grows grown possible shape first now
  pub sum : Carries (possible now) (shape now) sum_wire n (λ v. lanewise (λ x y. (saved_terms more x y).sum) (words v left) (words v right))
  pub carry : Carries (possible now) (shape now) carry_wire n (λ v. lanewise (λ x y. (saved_terms more x y).carry) (words v left) (words v right))
  pub spent : ands now ≤ ands first + (2 + 2 * more) * n
