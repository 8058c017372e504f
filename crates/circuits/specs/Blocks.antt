-- Blocks of lanes that lie one after the other: lane i of block j is lane j * width + i.
use Rattle.std.specs.Prelude.{ℕ, ◌+◌, ◌*◌, List, ◌++◌, length, map, slice_index, slice_range}
use Rattle.std.specs.List.{range_with_len}
use Rattle.lanes.specs.Folds.{words_folded}
use Rattle.lanes.specs.Lanes.{lanewise}
use Rattle.circuits.specs.Values.{saved_carries, saved_sums}

-- the words of one lane of so many blocks
abbrev pub lane_of_blocks : ℕ → ℕ → List ℕ → ℕ → List ℕ
lane_of_blocks count width xs i = map (λ j. slice_index xs (j * width + i)) (range_with_len 0 count)

-- in each lane the fold of that lane over all blocks
abbrev pub blocks_folded : (ℕ → ℕ → ℕ) → ℕ → ℕ → List ℕ → List ℕ
blocks_folded op count width xs = map (λ i. words_folded op (lane_of_blocks count width xs i)) (range_with_len 0 width)

-- the first so many words folded with the next so many, and behind them the words that are left
unfoldable pub halves_folded : (ℕ → ℕ → ℕ) → ℕ → List ℕ → List ℕ
halves_folded op half xs = lanewise op (slice_range xs 0 half) (slice_range xs half (half + half)) ++ slice_range xs (half + half) (length xs)

-- three lots of so many words as two with the same sums, and behind them the words that are left
unfoldable pub thirds_saved : ℕ → List ℕ → List ℕ
thirds_saved third xs =
    (saved_sums (slice_range xs 0 third) (slice_range xs third (2 * third)) (slice_range xs (2 * third) (3 * third))
    ++ saved_carries (slice_range xs 0 third) (slice_range xs third (2 * third)) (slice_range xs (2 * third) (3 * third)))
    ++ slice_range xs (3 * third) (length xs)
