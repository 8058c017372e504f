-- Rows by their places: those with some keys, in a group and in a join.
use Rattle.std.proofs.Common.{◌≡◌, ℕ, ◌+◌, ◌<◌, List, [], map, length, sym, ◌∙◌, ap, arith}
use Rattle.std.specs.List.{All, filter, range_with_len}
use Rattle.std.specs.Cmp.Lexicographic.{nat_list_eq_equiv}
use Rattle.std.proofs.lemmas.List.{get_or-map, length-map}
use Rattle.std.proofs.lemmas.List.Elements.{All-filter, All-weaker, filter_agree}
use Rattle.bags.specs.Bag.{row_eq}
use Rattle.plain_operators.specs.Columns.{cut}
use Rattle.plain_operators.specs.Operators.{have_equal_keys, joined_row, joined_rows_of, left_keys, right_keys, rows_with}
use Rattle.plain_operators.specs.Places.{places_of, places_with, row_at}
use Rattle.plain_operators.proofs.Lists.{filter_agree_on, map_map, range_below}
use Rattle.plain_operators.proofs.Places.{kept_places}

pub places_below : (rows : List (List ℕ)) (key : List ℕ) → All (λ place. place < length rows) (places_with rows key)
places_below rows key = All-filter (λ place. row_eq (row_at rows place) key) (λ place. place < length rows) (places_of rows) (All-weaker (λ place. place < 0 + length rows) (λ place. place < length rows) (λ place h. omega arith) (places_of rows) (range_below 0 (length rows)))

-- the rows with these keys stand at the places of the key among the cut rows
pub rows_by_places : (keys : List ℕ) (rows : List (List ℕ)) (key : List ℕ) → rows_with keys rows key ≡ map (row_at rows) (places_with (map (cut keys) rows) key)
rows_by_places keys rows key =
    let cuts = map (cut keys) rows in
    let p = λ (place : ℕ). row_eq (cut keys (row_at rows place)) key in
    let q = λ (place : ℕ). row_eq (row_at cuts place) key in
    let same : All (λ place. p place ≡ q place) (places_of rows) = All-weaker (λ place. place < 0 + length rows) (λ place. p place ≡ q place)
    (λ place below. ap (λ row. row_eq row key) (sym (get_or-map (cut keys) rows place [] [] (omega arith)))) (places_of rows) (range_below 0 (length rows)) in
    kept_places (λ row. row_eq (cut keys row) key) rows ∙ ap (map (row_at rows)) (filter_agree_on p q (places_of rows) same ∙ ap (λ n. filter q (range_with_len 0 n)) (sym (length-map rows (cut keys))))

-- the joined rows of a left row
pub joined_by_places : (keys : List (ℕ × ℕ)) (rights : List (List ℕ)) (left : List ℕ)
    → joined_rows_of keys rights left ≡ map (λ place. joined_row keys left (row_at rights place)) (places_with (map (cut (right_keys keys)) rights) (cut (left_keys keys) left))
joined_by_places keys rights left =
    let key = cut (left_keys keys) left in
    let turned = filter_agree (have_equal_keys keys left) (λ right. row_eq (cut (right_keys keys) right) key) (λ right. nat_list_eq_equiv.symm key (cut (right_keys keys) right)) rights in
    ap (map (joined_row keys left)) (turned ∙ rows_by_places (right_keys keys) rights key) ∙ map_map (joined_row keys left) (row_at rights) (places_with (map (cut (right_keys keys)) rights) key)
