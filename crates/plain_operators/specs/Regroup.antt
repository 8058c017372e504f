-- A group in two steps: each part of the rows by itself, and then the partial groups together.
use Rattle.std.specs.Prelude.{◌≡◌, ℕ, ◌+◌, ◌%◌, ◌^◌, ◌<◌, min, max, List, [], ◌∷◌, ◌++◌, length}
use Rattle.std.specs.List.{flat_map, range_with_len}
use Rattle.plain_operators.specs.declared.aggregate.Aggregate.{Aggregate}
use Rattle.plain_operators.specs.declared.aggregate.Aggregate.TheVariants.{Sum, Count, Least, Greatest}
use Rattle.plain_operators.specs.Operators.{aggregated, grouped_rows}

-- an aggregate of two lists of rows from that of each
abbrev pub combined : Aggregate → ℕ → ℕ → ℕ
combined (Sum column) a b = (a + b) % 2 ^ 64
combined Count a b = a + b
combined (Least column) a b = min a b
combined (Greatest column) a b = max a b

abbrev pub AggregatesOfAppend : Type 0
AggregatesOfAppend = (aggregate : Aggregate) (xs ys : List (List ℕ)) → aggregated aggregate (xs ++ ys) ≡ combined aggregate (aggregated aggregate xs) (aggregated aggregate ys)

-- the aggregate over partial groups that have it in this column: sums and counts are added, least and greatest taken again
abbrev pub again : Aggregate → ℕ → Aggregate
again (Sum column) place = Sum place
again Count place = Sum place
again (Least column) place = Least place
again (Greatest column) place = Greatest place

-- the aggregates over partial groups, whose aggregates stand from this column on
abbrev pub again_from : ℕ → List Aggregate → List Aggregate
again_from place [] = []
again_from place (aggregate ∷ rest) = again aggregate place ∷ again_from (place + 1) rest

-- the groups of all parts, one part after the other
abbrev pub partial_groups : List ℕ → List Aggregate → List (List (List ℕ)) → List (List ℕ)
partial_groups keys aggregates parts = flat_map (grouped_rows keys aggregates) parts

-- grouping the partial groups again is grouping the parts' rows, of which there are fewer than 2^64
abbrev pub RegroupOfParts : Type 0
RegroupOfParts = (keys : List ℕ) (aggregates : List Aggregate) (parts : List (List (List ℕ))) → length (flat_map (λ part. part) parts) < 2 ^ 64
    → grouped_rows (range_with_len 0 (length keys)) (again_from (length keys) aggregates) (partial_groups keys aggregates parts) ≡ grouped_rows keys aggregates (flat_map (λ part. part) parts)
