-- Filter and join by the places of rows.
use Rattle.std.proofs.Common.{◌≡◌, ℕ, Bool, List, [], map, sym, ◌∙◌, ap}
use Rattle.std.specs.List.{filter, flat_map, list_all}
use Rattle.plain_operators.proofs.BagFacts.{map_places}
use Rattle.plain_operators.specs.Operators.{have_equal_keys, joined_row, joined_rows_of}
use Rattle.plain_operators.specs.Places.{FilterOfPlaces, JoinOfPlaces, places_of, row_at}
use Rattle.plain_operators.proofs.Lists.{map_map, flat_map_same, flat_map-map, map-flat_map, filter-map}

-- a filter by places
pub kept_places : (p : List ℕ → Bool) (rows : List (List ℕ)) → filter p rows ≡ map (row_at rows) (filter (λ place. p (row_at rows place)) (places_of rows))
kept_places p rows = ap (filter p) (sym (map_places [] rows)) ∙ filter-map p (row_at rows) (places_of rows)

pub filter_of_places : FilterOfPlaces
filter_of_places tests rows = kept_places (λ row. list_all (λ test. test row) tests) rows

pub join_of_places : JoinOfPlaces
join_of_places keys lefts rights =
    let matching = λ (left : List ℕ). filter (λ (right : ℕ). have_equal_keys keys left (row_at rights right)) (places_of rights) in
    let made = λ (pair : ℕ × ℕ). joined_row keys (row_at lefts pair.0) (row_at rights pair.1) in
    let pairs = λ (left : ℕ). map (λ (right : ℕ). (left, right)) (matching (row_at lefts left)) in
    let of_left : (left : ℕ) → joined_rows_of keys rights (row_at lefts left) ≡ map made (pairs left) = λ left.
    let row = row_at lefts left in
    ap (map (joined_row keys row)) (kept_places (have_equal_keys keys row) rights) ∙ map_map (joined_row keys row) (row_at rights) (matching row) ∙ sym (map_map made (λ right. (left, right)) (matching row)) in
    ap (flat_map (joined_rows_of keys rights)) (sym (map_places [] lefts)) ∙ flat_map-map (joined_rows_of keys rights) (row_at lefts) (places_of lefts)
    ∙ flat_map_same (λ left. joined_rows_of keys rights (row_at lefts left)) (λ left. map made (pairs left)) of_left (places_of lefts) ∙ sym (map-flat_map made pairs (places_of lefts))
