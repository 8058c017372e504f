-- What the scan of runs keeps, level by level.
use Rattle.std.specs.Prelude.{◌≡◌, ℕ, ◌+◌, ◌-◌, ◌*◌, ◌^◌, ◌≤◌, min, List, length, slice_index, slice_get, Some, None, Option, nat_le, if◌then◌else◌}
use Rattle.std.specs.Prelude.{bit_and}
use Rattle.lanes.specs.Lanes.{lanewise}
use Rattle.wires.specs.Environment.{Environment, words}
use Rattle.wires.specs.Growth.{Carries, Grows}
use Rattle.wires.specs.declared.wire.Wire.{Wire}
use Rattle.circuits.specs.declared.folds.Fold.{Fold}
use Rattle.circuits.specs.Folds.{combine_calls, combine_cost, combine_wires, combined_word}
use Rattle.circuits.specs.Runs.{by_lane, fold_back, run_before}
use Rattle.circuits.specs.Values.{chosen_lanes}

-- the words moved up by so many lanes; the first lanes repeat lane 0
abbrev pub moved_lanes : ℕ → List ℕ → List ℕ
moved_lanes by xs = by_lane (λ k. slice_index xs (k - by)) xs

-- 1 where at least so many lanes of the run stand before a lane, and else 0
abbrev pub reaching_lanes : ℕ → List ℕ → List ℕ
reaching_lanes by joined = by_lane (λ k. if nat_le by (run_before joined k) then 1 else 0) joined

-- one more level of them
unfoldable pub further_lanes : ℕ → List ℕ → List ℕ
further_lanes by flags = lanewise bit_and flags (moved_lanes by flags)

-- what a level does with the earlier word: it folds it in, or takes it as it is
abbrev pub taken_word : Option Fold → ℕ → ℕ → ℕ
taken_word (Some fold) = combined_word fold
taken_word None = λ earlier later. earlier

abbrev pub taken_cost : Option Fold → ℕ
taken_cost (Some fold) = combine_cost fold
taken_cost None = 0

abbrev pub taken_calls : Option Fold → ℕ
taken_calls (Some fold) = combine_calls fold
taken_calls None = 0

abbrev pub taken_wires : Option Fold → ℕ
taken_wires (Some fold) = combine_wires fold
taken_wires None = 0

-- in each lane the fold of its run so far, over fewer than so many lanes
abbrev pub near_folds : (ℕ → ℕ → ℕ) → ℕ → List ℕ → List ℕ → List ℕ
near_folds op reach joined xs = by_lane (λ k. fold_back op xs k (min (run_before joined k) (reach - 1))) xs

-- one more level of them: where the run reaches back so far, the word of the lane there is taken in
unfoldable pub further_folds : (ℕ → ℕ → ℕ) → ℕ → List ℕ → List ℕ → List ℕ
further_folds op by flags xs = chosen_lanes flags (lanewise op (moved_lanes by xs) xs) xs

-- a flag wire for each level
pub record LevelFlags (possible : Environment → Type 0) (shape : List ℕ) (flags : List Wire) (joined : Wire) (n : ℕ) : Type 0 where
  pub each : (k : ℕ) (flag : Wire) → slice_get flags k ≡ Some flag → Carries possible shape flag n (λ v. reaching_lanes (2 ^ k) (words v joined))

-- the flags of the levels so far, and those of the next
pub record Flagging {S : Type 0} (grown : S → S → Type 0) (possible : S → Environment → Type 0) (shape : S → List ℕ) (ands : S → ℕ)
    (first now : S) (joined flag : Wire) (flags : List Wire) (n places : ℕ) : Type 0 where
  pub grows : Grows grown possible shape first now
  pub so_far : LevelFlags (possible now) (shape now) flags joined n
  pub next : Carries (possible now) (shape now) flag n (λ v. reaching_lanes (2 ^ length flags) (words v joined))
  pub places_are : places ≡ 2 ^ length flags
  pub fewest : (levels : ℕ) → n ≤ 2 ^ levels → length flags ≤ levels
  pub spent : ands now ≤ ands first + length flags * n
