-- An index of rows: the number of each row among the distinct ones, and the places of each of these.
use Rattle.std.specs.Prelude.{◌≡◌, ℕ, suc, cond, Option, Some, None, List, [], ◌∷◌, ◌++◌, map, slice_index_or, slice_set}
use Rattle.std.specs.Option.{option_map}
use Rattle.std.specs.HashMap.{get_by}
use Rattle.bags.specs.Bag.{row_eq}
use Rattle.plain_operators.specs.declared.key_places.RowIndex.TheInside.{Inside}
use Rattle.plain_operators.specs.Operators.{distinct_rows}
use Rattle.plain_operators.specs.Places.{grouped_places}

-- the place of a row in a list, if it is there
abbrev pub place_in : List (List ℕ) → List ℕ → Option ℕ
place_in [] row = None
place_in (x ∷ xs) row = cond (row_eq row x) (Some 0) (option_map suc (place_in xs row))

pub record GathersPlaces (numbers : List ℕ → Option ℕ) (groups : List (List ℕ)) (rows : List (List ℕ)) : Type 0 where
  pub numbered : (row : List ℕ) → numbers row ≡ place_in (distinct_rows rows) row
  pub gathered : groups ≡ grouped_places rows

-- the rows of an index
abbrev pub indexed : Inside → List (List ℕ)
indexed index = map (λ row. row.now) index.rows.now

abbrev pub IsIndex : Inside → Type 0
IsIndex index = GathersPlaces (λ row. get_by (λ k. row_eq row k.now) index.numbers) (map (λ places. places.items) index.groups.items) (indexed index)

-- groups of places of which one gets one more
abbrev pub with_place : List (List ℕ) → ℕ → ℕ → List (List ℕ)
with_place groups number place = slice_set groups number (slice_index_or groups number [] ++ place ∷ [])
