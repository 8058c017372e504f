-- Columns of rows by their numbers, from 0.
use Rattle.std.specs.Prelude.{ℕ, Bool, not, ◌==◌, List, length, map, slice_index}
use Rattle.std.specs.List.{filter, list_any, range_with_len}

-- the word of a row in a column
abbrev pub word_at : ℕ → List ℕ → ℕ
word_at column row = slice_index row column

-- a row cut to some columns, in the order of these
abbrev pub cut : List ℕ → List ℕ → List ℕ
cut columns row = map (λ column. word_at column row) columns

-- whether a column is among these
abbrev pub is_key : List ℕ → ℕ → Bool
is_key keys column = list_any (λ key. key == column) keys

-- the columns of a row of this width that aren't among the keys, in their order
abbrev pub other_columns : List ℕ → ℕ → List ℕ
other_columns keys width = filter (λ column. not (is_key keys column)) (range_with_len 0 width)

-- a row cut to the columns that aren't keys
abbrev pub others : List ℕ → List ℕ → List ℕ
others keys row = cut (other_columns keys (length row)) row
