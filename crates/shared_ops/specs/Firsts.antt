-- A joint table's rows that are first with their keys.
use Rattle.std.specs.Prelude.{◌≡◌, ℕ, ◌<◌, List}
use Rattle.padded.specs.Table.{AreBits, is_live}
use Rattle.plain_operators.specs.Columns.{cut}
use Rattle.plain_operators.specs.Firsts.{is_first}
use Rattle.tapes.specs.RowLaws.{row_across}
use Rattle.wires.specs.Environment.{Environment, words}
use Rattle.shared_ops.specs.declared.firsts.FirstRows.{FirstRows}
use Rattle.shared_ops.specs.declared.joint.Joint.{Joint}
use Rattle.shared_ops.specs.Groups.{with_themselves}
use Rattle.shared_ops.specs.Joint.{IsWide, column_words, valid_words}
use Rattle.shared_ops.specs.Pairs.{IsMatched}

-- the keys of the row at a place
abbrev pub keys_across : List ℕ → List (List ℕ) → ℕ → List ℕ
keys_across keys columns place = cut keys (row_across columns place)

-- the flags of its pairs of rows with equal keys, and valid words that leave in each valid row that is the first with its keys
pub record AreFirsts (possible : Environment → Type 0) (shape : List ℕ) (keys : List ℕ) (t : Joint) (firsts : FirstRows) : Type 0 where
  pub flags : IsMatched possible shape (with_themselves keys) t t firsts.flags
  pub wide : IsWide shape t.rows firsts.valid
  pub bits : (v : Environment) → possible v → AreBits (valid_words v t) → AreBits (words v firsts.valid)
  pub first : (v : Environment) → possible v → AreBits (valid_words v t) → (k : ℕ) → k < t.rows
      → is_live (words v firsts.valid) k ≡ is_first (is_live (valid_words v t)) (keys_across keys (column_words v t)) k
