-- Pairs of a left and a right row: lane i * m + j is row i of the left with row j of the right, where the right has m rows.
use Rattle.std.specs.Prelude.{◌≡◌, ℕ, ◌*◌, ◌/◌, ◌%◌, Bool, ◌&&◌, if◌then◌else◌, List, ◌++◌, length, map}
use Rattle.std.specs.List.{range_with_len}
use Rattle.padded.specs.Table.{AreBits, Table, columns_at, is_live}
use Rattle.plain_operators.specs.Columns.{other_columns}
use Rattle.plain_operators.specs.Operators.{have_equal_keys, left_keys, right_keys}
use Rattle.tapes.specs.RowLaws.{columns_applied, row_across}
use Rattle.wires.specs.Environment.{Environment, words}
use Rattle.wires.specs.declared.wire.Wire.{Wire}
use Rattle.shared_ops.specs.declared.joint.Joint.{Joint}
use Rattle.shared_ops.specs.Joint.{IsWide, column_words, valid_words}

-- the place of the left row and that of the right row in each lane, of n rows with m rows
abbrev pub left_places : ℕ → ℕ → List ℕ
left_places n m = map (λ p. p / m) (range_with_len 0 (n * m))

abbrev pub right_places : ℕ → ℕ → List ℕ
right_places n m = map (λ p. p % m) (range_with_len 0 (n * m))

-- whether rows stand at both places, with equal keys
abbrev pub rows_match : List (ℕ × ℕ) → Table → Table → ℕ → ℕ → Bool
rows_match keys left right i j = is_live left.valid i && (is_live right.valid j && have_equal_keys keys (row_across left.columns i) (row_across right.columns j))

-- in each lane 1 where they match, and else 0
abbrev pub match_words : List (ℕ × ℕ) → Table → Table → ℕ → ℕ → List ℕ
match_words keys left right n m = map (λ p. if rows_match keys left right (p / m) (p % m) then 1 else 0) (range_with_len 0 (n * m))

-- a joint table in an environment
abbrev pub table_in : Environment → Joint → Table
table_in v t = record { columns = column_words v t; valid = valid_words v t }

-- a wire with a lane for each pair of rows, with these words where the valid words are 0 and 1
pub record IsMatched (possible : Environment → Type 0) (shape : List ℕ) (keys : List (ℕ × ℕ)) (left right : Joint) (wire : Wire) : Type 0 where
  pub wide : IsWide shape (left.rows * right.rows) wire
  pub value : (v : Environment) → possible v → AreBits (valid_words v left) → AreBits (valid_words v right)
      → words v wire ≡ match_words keys (table_in v left) (table_in v right) left.rows right.rows

-- the numbers of the columns of a joined row: the left's keys and its others, and the right's others
abbrev pub left_numbers : List (ℕ × ℕ) → ℕ → List ℕ
left_numbers keys width = left_keys keys ++ other_columns (left_keys keys) width

abbrev pub right_numbers : List (ℕ × ℕ) → ℕ → List ℕ
right_numbers keys width = other_columns (right_keys keys) width

-- these columns of the pairs of n rows with m rows
abbrev pub columns_of_pairs : List (ℕ × ℕ) → ℕ → ℕ → List (List ℕ) → List (List ℕ) → List (List ℕ)
columns_of_pairs keys n m lefts rights =
    columns_applied (left_places n m) (columns_at (left_numbers keys (length lefts)) lefts) ++ columns_applied (right_places n m) (columns_at (right_numbers keys (length rights)) rights)
