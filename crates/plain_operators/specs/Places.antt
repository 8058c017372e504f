-- Filter and join by the places of rows.
use Rattle.std.specs.Prelude.{◌≡◌, ℕ, ◌<◌, Bool, List, [], Vec, length, map, slice_index_or}
use Rattle.std.specs.Global.{Global}
use Rattle.std.specs.List.{All, filter, flat_map, list_all, range_with_len}
use Rattle.bags.specs.Bag.{row_eq}
use Rattle.plain_operators.specs.Columns.{cut}
use Rattle.plain_operators.specs.declared.aggregate.Aggregate.{Aggregate}
use Rattle.plain_operators.specs.Laws.{block_row}
use Rattle.plain_operators.specs.Operators.{distinct_rows, have_equal_keys, joined_row, joined_rows, joined_words, kept_rows}

-- the places of a list of rows, from 0
abbrev pub places_of : List (List ℕ) → List ℕ
places_of rows = range_with_len 0 (length rows)

-- the row at a place
abbrev pub row_at : List (List ℕ) → ℕ → List ℕ
row_at rows place = slice_index_or rows place []

-- places of so many rows, of which there is one at least
pub record ArePlaces (count : ℕ) (places : List ℕ) : Type 0 where
  pub filled : 0 < length places
  pub within : All (λ place. place < count) places

-- a filter is the rows at the places that pass, in order
abbrev pub FilterOfPlaces : Type 0
FilterOfPlaces = (tests : List (List ℕ → Bool)) (rows : List (List ℕ))
    → kept_rows tests rows ≡ map (row_at rows) (filter (λ place. list_all (λ test. test (row_at rows place)) tests) (places_of rows))

-- the places of the rows that are this row, in order
abbrev pub places_with : List (List ℕ) → List ℕ → List ℕ
places_with rows key = filter (λ place. row_eq (row_at rows place) key) (places_of rows)

-- the places of each distinct row, in the order of the first ones
abbrev pub grouped_places : List (List ℕ) → List (List ℕ)
grouped_places rows = map (places_with rows) (distinct_rows rows)

-- the pairs of a left and a right place with equal keys, in nested order
abbrev pub matching_places : List (ℕ × ℕ) → List (List ℕ) → List (List ℕ) → List (ℕ × ℕ)
matching_places keys lefts rights =
    flat_map (λ left. map (λ right. (left, right)) (filter (λ right. have_equal_keys keys (row_at lefts left) (row_at rights right)) (places_of rights))) (places_of lefts)

-- a join is the joined rows of the matching pairs of places
abbrev pub JoinOfPlaces : Type 0
JoinOfPlaces = (keys : List (ℕ × ℕ)) (lefts rights : List (List ℕ))
    → joined_rows keys lefts rights ≡ map (λ pair. joined_row keys (row_at lefts pair.0) (row_at rights pair.1)) (matching_places keys lefts rights)

-- the joined rows of a left row and the right rows at these places
abbrev pub joined_rows_at : List ℕ → List ℕ → List (List ℕ) → List ℕ → List ℕ → List (List ℕ)
joined_rows_at lefts rights rows left places = map (λ place. joined_words lefts rights left (row_at rows place)) places

-- the joined rows of a left row and the right rows that have its keys, found among the cut right rows
abbrev pub joined_rows_found : List ℕ → List ℕ → List (List ℕ) → List (List ℕ) → List ℕ → List (List ℕ)
joined_rows_found lefts rights rows cuts left = joined_rows_at lefts rights rows left (places_with cuts (cut lefts left))

-- the joined rows of all left rows, found so
abbrev pub rows_found : List ℕ → List ℕ → List (List ℕ) → List (List ℕ) → List (List ℕ) → List (List ℕ)
rows_found lefts rights rows cuts left_rows = flat_map (joined_rows_found lefts rights rows cuts) left_rows

-- the row of a group, by the places of its rows
abbrev pub row_of_places : List ℕ → List Aggregate → List (List ℕ) → List ℕ → List ℕ
row_of_places keys aggregates rows places = block_row keys aggregates (map (row_at rows) places)

-- the rows of groups, by the places of their rows
abbrev pub rows_of_places : List ℕ → List Aggregate → List (List ℕ) → List (Vec ℕ Global) → List (List ℕ)
rows_of_places keys aggregates rows groups = map (λ places. row_of_places keys aggregates rows places.items) groups
