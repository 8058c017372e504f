-- The laws of folds, and of runs over blocks of lanes that lie one after the other.
use Rattle.std.specs.Prelude.{◌≡◌, ℕ, ◌-◌, ◌%◌, ◌^◌, ◌<◌, List, ◌++◌, length, replicate, slice_index}
use Rattle.circuits.specs.declared.folds.Fold.{Fold}
use Rattle.lanes.specs.Folds.{words_folded}
use Rattle.circuits.specs.Folds.{combined_word, neutral_word}
use Rattle.circuits.specs.Runs.{runs_copied, runs_folded}

-- words may be folded in any order, and the neutral word changes no fold
pub record FoldsAreLawful : Type 0 where
  pub associates : (fold : Fold) (x y z : ℕ) → combined_word fold (combined_word fold x y) z ≡ combined_word fold x (combined_word fold y z)
  pub commutes : (fold : Fold) (x y : ℕ) → combined_word fold x y ≡ combined_word fold y x
  pub neutral : (fold : Fold) (x : ℕ) → x < 2 ^ 64 → combined_word fold (neutral_word fold) x ≡ x

-- the first lane isn't joined to the lane before it
abbrev pub BeginsRun : List ℕ → Type 0
BeginsRun joined = slice_index joined 0 % 2 ≡ 0

-- each lane but the first is joined to the lane before it
abbrev pub IsOneRun : List ℕ → Type 0
IsOneRun joined = (k : ℕ) → 0 < k → k < length joined → slice_index joined k % 2 ≡ 1

-- what a block's lanes get depends on that block alone
pub record RunsOfBlocks : Type 0 where
  pub folds : (op : ℕ → ℕ → ℕ) (js ks xs ys : List ℕ) → length js ≡ length xs → BeginsRun ks
      → runs_folded op (js ++ ks) (xs ++ ys) ≡ runs_folded op js xs ++ runs_folded op ks ys
  pub copies : (js ks xs ys : List ℕ) → length js ≡ length xs → BeginsRun ks
      → runs_copied (js ++ ks) (xs ++ ys) ≡ runs_copied js xs ++ runs_copied ks ys

-- in a block that is one run the last lane gets the fold of the block's words, and each lane a copy of the first
pub record RunsOfOneBlock : Type 0 where
  pub last_fold : (op : ℕ → ℕ → ℕ) → ((x y z : ℕ) → op (op x y) z ≡ op x (op y z)) → (js xs : List ℕ) → length js ≡ length xs → IsOneRun js
      → slice_index (runs_folded op js xs) (length xs - 1) ≡ words_folded op xs
  pub copies : (js xs : List ℕ) → length js ≡ length xs → IsOneRun js → runs_copied js xs ≡ replicate (length xs) (slice_index xs 0)
