-- Runs of lanes: lane 0 begins a run, and a later lane belongs to the run of the lane before it exactly where
-- bit 0 of its word in `joined` is 1.
use Rattle.std.specs.Prelude.{ℕ, zero, suc, ◌-◌, ◌%◌, ◌==◌, List, length, map, slice_index, if◌then◌else◌}
use Rattle.std.specs.List.{range_with_len}

-- how many lanes of its run stand before a lane
unfoldable pub run_before : List ℕ → ℕ → ℕ
run_before joined zero = 0
run_before joined (suc k) = if slice_index joined (suc k) % 2 == 1 then suc (run_before joined k) else 0

-- the fold of a lane's word with those of so many lanes before it
unfoldable pub fold_back : (ℕ → ℕ → ℕ) → List ℕ → ℕ → ℕ → ℕ
fold_back op xs k zero = slice_index xs k
fold_back op xs k (suc m) = op (slice_index xs (k - suc m)) (fold_back op xs k m)

-- a word for each lane of a list
abbrev pub by_lane : (ℕ → ℕ) → List ℕ → List ℕ
by_lane f xs = map f (range_with_len 0 (length xs))

-- in each lane the fold of its run so far
abbrev pub runs_folded : (ℕ → ℕ → ℕ) → List ℕ → List ℕ → List ℕ
runs_folded op joined xs = by_lane (λ k. fold_back op xs k (run_before joined k)) xs

-- in each lane the word of its run's first lane
abbrev pub runs_copied : List ℕ → List ℕ → List ℕ
runs_copied joined xs = by_lane (λ k. slice_index xs (k - run_before joined k)) xs
