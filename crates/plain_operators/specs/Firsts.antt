-- Distinct rows and groups by places, at only some of which a row stands.
use Rattle.std.specs.Prelude.{◌≡◌, ℕ, Bool, false, not, if◌then◌else◌, List, ◌++◌, map}
use Rattle.std.specs.List.{filter, list_any, range_with_len}
use Rattle.bags.specs.Bag.{row_eq}
use Rattle.plain_operators.specs.Columns.{cut}
use Rattle.plain_operators.specs.declared.aggregate.Aggregate.{Aggregate}
use Rattle.plain_operators.specs.Operators.{aggregates_of, distinct_rows, grouped_rows}

-- the places below a count at which a row stands, in order
abbrev pub standing : (ℕ → Bool) → ℕ → List ℕ
standing stands count = filter stands (range_with_len 0 count)

-- whether a row stands at a place, and at no place before it an equal one
abbrev pub is_first : (ℕ → Bool) → (ℕ → List ℕ) → ℕ → Bool
is_first stands row place = if stands place then not (list_any (λ other. if stands other then row_eq (row other) (row place) else false) (range_with_len 0 place)) else false

-- the places of the rows that have the keys of the row at a place
abbrev pub places_alike : List ℕ → (ℕ → Bool) → (ℕ → List ℕ) → ℕ → ℕ → List ℕ
places_alike keys stands row count place = filter (λ other. row_eq (cut keys (row other)) (cut keys (row place))) (standing stands count)

-- distinct rows are those at the places that are first
abbrev pub DistinctOfFirsts : Type 0
DistinctOfFirsts = (stands : ℕ → Bool) (row : ℕ → List ℕ) (count : ℕ) → distinct_rows (map row (standing stands count)) ≡ map row (standing (is_first stands row) count)

-- a group has a row for each place that is first with its keys: these, then the aggregates over the rows that have them
abbrev pub GroupOfFirsts : Type 0
GroupOfFirsts = (keys : List ℕ) (aggregates : List Aggregate) (stands : ℕ → Bool) (row : ℕ → List ℕ) (count : ℕ) → grouped_rows keys aggregates (map row (standing stands count))
    ≡ map (λ place. cut keys (row place) ++ aggregates_of aggregates (map row (places_alike keys stands row count place))) (standing (is_first stands (λ place. cut keys (row place))) count)
