-- The operators of a query on lists of rows, with columns by number: no name, owner, trust, place or bound.
use Rattle.std.specs.Prelude.{ℕ, ◌-◌, ◌%◌, ◌^◌, min, max, Bool, not, List, [], ◌∷◌, ◌++◌, length, map}
use Rattle.std.specs.List.{filter, flat_map, fold, list_all, sum}
use Rattle.bags.specs.Bag.{row_eq}
use Rattle.plain_operators.specs.declared.aggregate.Aggregate.{Aggregate}
use Rattle.plain_operators.specs.declared.aggregate.Aggregate.TheVariants.{Sum, Count, Least, Greatest}
use Rattle.plain_operators.specs.Columns.{cut, others, word_at}

-- filter: the rows for which each test holds, in order
abbrev pub kept_rows : List (List ℕ → Bool) → List (List ℕ) → List (List ℕ)
kept_rows tests rows = filter (λ row. list_all (λ test. test row) tests) rows

-- select: each row replaced by its items
abbrev pub rows_of_items : List (List ℕ → ℕ) → List (List ℕ) → List (List ℕ)
rows_of_items items rows = map (λ row. map (λ item. item row) items) rows

-- the keys of a join: a column of the left and one of the right for each
abbrev pub left_keys : List (ℕ × ℕ) → List ℕ
left_keys keys = map (λ key. key.0) keys

abbrev pub right_keys : List (ℕ × ℕ) → List ℕ
right_keys keys = map (λ key. key.1) keys

-- whether a left and a right row have equal keys
abbrev pub have_equal_keys : List (ℕ × ℕ) → List ℕ → List ℕ → Bool
have_equal_keys keys left right = row_eq (cut (left_keys keys) left) (cut (right_keys keys) right)

-- the keys, then the left's others, then the right's others
abbrev pub joined_words : List ℕ → List ℕ → List ℕ → List ℕ → List ℕ
joined_words lefts rights left right = cut lefts left ++ (others lefts left ++ others rights right)

abbrev pub joined_row : List (ℕ × ℕ) → List ℕ → List ℕ → List ℕ
joined_row keys left right = joined_words (left_keys keys) (right_keys keys) left right

-- the joined rows of one left row, for each right row with equal keys
abbrev pub joined_rows_of : List (ℕ × ℕ) → List (List ℕ) → List ℕ → List (List ℕ)
joined_rows_of keys rights left = map (joined_row keys left) (filter (have_equal_keys keys left) rights)

-- join: for each left row, for each right row with equal keys
abbrev pub joined_rows : List (ℕ × ℕ) → List (List ℕ) → List (List ℕ) → List (List ℕ)
joined_rows keys lefts rights = flat_map (joined_rows_of keys rights) lefts

-- distinct: each row at its first occurrence
abbrev pub distinct_rows : List (List ℕ) → List (List ℕ)
distinct_rows [] = []
distinct_rows (row ∷ rows) = row ∷ filter (λ other. not (row_eq other row)) (distinct_rows rows)

-- an aggregate over rows: the sum of a column modulo 2^64, how many rows, the least and the greatest word of a column
abbrev pub aggregated : Aggregate → List (List ℕ) → ℕ
aggregated (Sum column) rows = sum (map (word_at column) rows) % 2 ^ 64
aggregated Count rows = length rows
aggregated (Least column) rows = fold min (2 ^ 64 - 1) (map (word_at column) rows)
aggregated (Greatest column) rows = fold max 0 (map (word_at column) rows)

abbrev pub aggregates_of : List Aggregate → List (List ℕ) → List ℕ
aggregates_of aggregates rows = map (λ aggregate. aggregated aggregate rows) aggregates

-- the rows with these keys
abbrev pub rows_with : List ℕ → List (List ℕ) → List ℕ → List (List ℕ)
rows_with keys rows key = filter (λ row. row_eq (cut keys row) key) rows

-- the key lists that occur, in the order of their first rows
abbrev pub key_lists : List ℕ → List (List ℕ) → List (List ℕ)
key_lists keys rows = distinct_rows (map (cut keys) rows)

-- the keys, then each aggregate over the rows with these keys
abbrev pub grouped_row : List ℕ → List Aggregate → List (List ℕ) → List ℕ → List ℕ
grouped_row keys aggregates rows key = key ++ aggregates_of aggregates (rows_with keys rows key)

-- group with keys: one row for each key list
abbrev pub grouped_rows : List ℕ → List Aggregate → List (List ℕ) → List (List ℕ)
grouped_rows keys aggregates rows = map (grouped_row keys aggregates rows) (key_lists keys rows)

-- group without keys: no row from none, else one row of the aggregates over all rows
abbrev pub whole_table_rows : List Aggregate → List (List ℕ) → List (List ℕ)
whole_table_rows aggregates [] = []
whole_table_rows aggregates (row ∷ rows) = aggregates_of aggregates (row ∷ rows) ∷ []
