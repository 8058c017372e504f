-- The words of a joined row by the numbers of its columns: the keys, the left's other columns, the right's.
use Rattle.std.specs.Prelude.{◌≡◌, ℕ, ◌+◌, ◌<◌, List, length, slice_index}
use Rattle.plain_operators.specs.Columns.{other_columns, word_at}
use Rattle.plain_operators.specs.Operators.{joined_row, left_keys, right_keys}

pub record JoinedColumns : Type 0 where
  pub keys : (keys : List (ℕ × ℕ)) (left right : List ℕ) (k : ℕ) → k < length keys → word_at k (joined_row keys left right) ≡ word_at (slice_index (left_keys keys) k) left
  pub lefts : (keys : List (ℕ × ℕ)) (left right : List ℕ) (k : ℕ) → k < length (other_columns (left_keys keys) (length left))
      → word_at (length keys + k) (joined_row keys left right) ≡ word_at (slice_index (other_columns (left_keys keys) (length left)) k) left
  pub rights : (keys : List (ℕ × ℕ)) (left right : List ℕ) (k : ℕ) → k < length (other_columns (right_keys keys) (length right))
      → word_at (length keys + (length (other_columns (left_keys keys) (length left)) + k)) (joined_row keys left right) ≡ word_at (slice_index (other_columns (right_keys keys) (length right)) k) right
