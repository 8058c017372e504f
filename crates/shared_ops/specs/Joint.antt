-- Joint tables: a wire for each column, and one of valid words; what a shared operator makes.
use Rattle.std.specs.Prelude.{◌≡◌, ℕ, List, [], ◌∷◌, All, length, map, slice_index_or, sum_by}
use Rattle.bags.specs.Bag.{SameBag}
use Rattle.padded.specs.Table.{AreBits, rows_in, zeroed_columns}
use Rattle.wires.specs.Environment.{Environment, words}
use Rattle.wires.specs.Growth.{IsMade, lanes_of}
use Rattle.wires.specs.declared.wire.Wire.{Wire}
use Rattle.shared_ops.specs.declared.joint.Joint.{Joint}

-- a wire was made with so many lanes
pub record IsWide (shape : List ℕ) (lanes : ℕ) (wire : Wire) : Type 0 where
  pub made : IsMade shape wire
  pub wide : lanes_of shape wire ≡ lanes

-- each wire of a joint table was made, with a lane for each of its rows
pub record IsJoint (shape : List ℕ) (t : Joint) : Type 0 where
  pub valid : IsWide shape t.rows t.valid
  pub columns : All (IsWide shape t.rows) t.columns.items

-- the words of its columns and its valid words in an environment
abbrev pub column_words : Environment → Joint → List (List ℕ)
column_words v t = map (words v) t.columns.items

abbrev pub valid_words : Environment → Joint → List ℕ
valid_words v t = words v t.valid

-- its valid rows
abbrev pub joint_rows : Environment → Joint → List (List ℕ)
joint_rows v t = rows_in (column_words v t) (valid_words v t)

-- what a shared operator makes: a table of so many rows and columns, and in each possible environment in which what is given holds,
-- valid words of 0 and 1 and valid rows of this bag
pub record Makes (possible : Environment → Type 0) (shape : List ℕ) (t : Joint) (count width : ℕ) (given : Environment → Type 0) (meaning : Environment → List (List ℕ)) : Type 0 where
  pub joint : IsJoint shape t
  pub rows : t.rows ≡ count
  pub wide : length t.columns.items ≡ width
  pub bits : (v : Environment) → possible v → given v → AreBits (valid_words v t)
  pub bag : (v : Environment) → possible v → given v → SameBag (joint_rows v t) (meaning v)

-- a table with zeros at each place without a row: its valid words are those of the first
pub record IsZeroed (possible : Environment → Type 0) (t zeroed : Joint) : Type 0 where
  pub valid : zeroed.valid ≡ t.valid
  pub columns : (v : Environment) → possible v → AreBits (valid_words v t) → column_words v zeroed ≡ zeroed_columns (valid_words v t) (column_words v t)

-- each of several tables
abbrev pub AreJoint : List ℕ → List Joint → Type 0
AreJoint shape tables = All (IsJoint shape) tables

abbrev pub AllBits : Environment → List Joint → Type 0
AllBits v tables = All (λ t. AreBits (valid_words v t)) tables

-- how many columns the first of several tables has, and how many rows all of them have
abbrev pub joint_width : List Joint → ℕ
joint_width [] = 0
joint_width (t ∷ ts) = length t.columns.items

abbrev pub joint_count : List Joint → ℕ
joint_count tables = sum_by (λ t. t.rows) tables

-- tables of as many columns as the first
abbrev pub AreAlike : List Joint → Type 0
AreAlike tables = All (λ t. length t.columns.items ≡ joint_width tables) tables

-- the wire of a column, the valid words where there is none
abbrev pub column_wire : ℕ → Joint → Wire
column_wire column t = slice_index_or t.columns.items column t.valid
