-- Groups lane by lane: rows that come again, and aggregates as folds of the words of flagged rows.
use Rattle.std.specs.Prelude.{◌≡◌, ℕ, ◌*◌, ◌/◌, ◌%◌, ◌^◌, ◌<◌, nat_lt, bit_and, bit_or, if◌then◌else◌, List, map, slice_index, slice_index_or}
use Rattle.std.specs.List.{range_with_len}
use Rattle.lanes.specs.Folds.{words_folded}
use Rattle.lanes.specs.Lanes.{lanewise, lanewise1}
use Rattle.lanes.specs.Table.{table_place}
use Rattle.lanes.specs.Word.{word_not}
use Rattle.circuits.specs.Folds.{masked_word}
use Rattle.circuits.specs.declared.folds.Fold.{Fold}
use Rattle.circuits.specs.declared.folds.Fold.TheVariants as folds
use Rattle.padded.specs.Table.{column_at}
use Rattle.plain_operators.specs.declared.aggregate.Aggregate.{Aggregate}
use Rattle.plain_operators.specs.declared.aggregate.Aggregate.TheVariants.{Sum, Count, Least, Greatest}
use Rattle.plain_operators.specs.Folds.{folded_by}
use Rattle.shared_ops.specs.declared.aggregate.Blocks.{Blocks}
use Rattle.shared_ops.specs.Joint.{IsWide}
use Rattle.shared_ops.specs.Pairs.{left_places}

-- ---- rows that come again

-- a place in a table of flags where the first row stands before the second, and else the place behind them all
abbrev pub earlier_place : ℕ → ℕ → ℕ
earlier_place rows place = if nat_lt (place / rows) (place % rows) then place else rows * rows

abbrev pub earlier_places : ℕ → List ℕ
earlier_places rows = map (earlier_place rows) (range_with_len 0 (rows * rows))

-- in lane i the or of the flags of all rows before row i
abbrev pub seen_word : ℕ → List ℕ → ℕ → ℕ
seen_word rows flags i = words_folded bit_or (map (λ j. if nat_lt j i then slice_index flags (table_place rows j i) else 0) (range_with_len 0 rows))

abbrev pub seen_lanes : ℕ → List ℕ → List ℕ
seen_lanes rows flags = map (seen_word rows flags) (range_with_len 0 rows)

-- valid words that leave in the rows that weren't seen
abbrev pub unseen_valid : ℕ → List ℕ → List ℕ → List ℕ
unseen_valid rows valid flags = lanewise bit_and valid (lanewise1 word_not (seen_lanes rows flags))

-- ---- aggregates

-- the fold of an aggregate
abbrev pub fold_of : Aggregate → Fold
fold_of (Sum column) = folds.Sum
fold_of Count = folds.Sum
fold_of (Least column) = folds.Least
fold_of (Greatest column) = folds.Greatest

-- what it folds of a row: the word of its column where the flag is 1 and else the word that changes nothing; of a count the flag
abbrev pub flagged_word : Aggregate → List (List ℕ) → ℕ → ℕ → ℕ
flagged_word (Sum column) columns flag place = masked_word folds.Sum flag (slice_index (column_at columns column) place)
flagged_word Count columns flag place = flag
flagged_word (Least column) columns flag place = masked_word folds.Least flag (slice_index (column_at columns column) place)
flagged_word (Greatest column) columns flag place = masked_word folds.Greatest flag (slice_index (column_at columns column) place)

-- in lane i the fold over all rows, by the flag that each has for that lane
abbrev pub aggregate_word : Aggregate → ℕ → ℕ → List ℕ → List (List ℕ) → ℕ → ℕ
aggregate_word aggregate rows width flags columns i = words_folded (folded_by aggregate) (map (λ j. flagged_word aggregate columns (slice_index flags (table_place width j i)) j) (range_with_len 0 rows))

abbrev pub aggregate_lanes : Aggregate → ℕ → ℕ → List ℕ → List (List ℕ) → List ℕ
aggregate_lanes aggregate rows width flags columns = map (aggregate_word aggregate rows width flags columns) (range_with_len 0 width)

-- those of the aggregate of a number
abbrev pub numbered_lanes : ℕ → List Aggregate → ℕ → ℕ → List ℕ → List (List ℕ) → List ℕ
numbered_lanes k aggregates rows width flags columns = aggregate_lanes (slice_index_or aggregates k (Sum 0)) rows width flags columns

-- a flag for each row in each of so many lanes, at few places
pub record AreBlocks (shape : List ℕ) (blocks : Blocks) : Type 0 where
  pub wide : IsWide shape (blocks.rows * blocks.width) blocks.flags
  pub places : blocks.places.items ≡ left_places blocks.rows blocks.width
  pub some : 0 < blocks.rows
  pub few : blocks.rows * blocks.width < 2 ^ 32

-- the same column on both sides, for each of these columns
abbrev pub with_themselves : List ℕ → List (ℕ × ℕ)
with_themselves keys = map (λ key. (key, key)) keys
