-- A group by the places of its rows.
use Rattle.std.proofs.Common.{◌≡◌, ℕ, zero, suc, ◌<◌, Bool, true, false, cond, List, [], ◌∷◌, ◌++◌, map, length, get_or, sym, ◌∙◌, ap, subst, arith}
use Rattle.std.specs.List.{All, filter, range_with_len}
use Rattle.std.proofs.lemmas.List.{get_or-map, get_or_default, length-map}
use Rattle.std.proofs.lemmas.List.FromFn.{get_or-range_with_len, length-range_with_len}
use Rattle.std.proofs.lemmas.List.Elements.{All-get_or, All-map, All-same, All-weaker, filter_passes}
use Rattle.bags.specs.Bag.{row_eq}
use Rattle.plain_operators.proofs.BagFacts.{row_itself}
use Rattle.plain_operators.specs.declared.aggregate.Aggregate.{Aggregate}
use Rattle.plain_operators.specs.Columns.{cut}
use Rattle.plain_operators.specs.Laws.{block_key, block_row}
use Rattle.plain_operators.specs.Operators.{aggregates_of, distinct_rows, grouped_row, grouped_rows, rows_with}
use Rattle.plain_operators.specs.Places.{ArePlaces, grouped_places, places_with, row_at}
use Rattle.plain_operators.proofs.DistinctRows.{All-distinct_rows, same_row}
use Rattle.plain_operators.proofs.Lists.{map_agree, map_map}
use Rattle.plain_operators.proofs.Picks.{places_below, rows_by_places}

-- what holds of each image holds of each element through the function
pub All-unmap : {X Y : Type 0} (P : Y → Type 0) (f : X → Y) (e : Y) (xs : List X) → All P (map f xs) → All (λ x. P (f x)) xs
All-unmap P f e xs all k d below =
    let inside : k < length (map f xs) = subst (λ n. k < n) (sym (length-map xs f)) below in
    subst P (get_or-map f xs k d e below) (all k e inside)

-- what holds of all rows holds of rows picked by their places
pub picked_all : {X : Type 0} (P : List ℕ → Type 0) (f : X → List ℕ) (rows block : List X) (places : List ℕ) → All (λ x. P (f x)) rows → All (λ place. place < length rows) places
    → map f block ≡ map (row_at (map f rows)) places → All (λ x. P (f x)) block
picked_all P f rows block places all within e =
    let R = map f rows in
    let long = length-map rows f in
    let each : All (λ place. P (row_at R place)) places = All-weaker (λ place. place < length rows) (λ place. P (row_at R place)) (λ place h. All-get_or P R place [] (subst (λ n. place < n) (sym long) h) (All-map P f rows all)) places within in
    All-unmap P f [] block (All-same P (map f block) (map (row_at R) places) e (All-map P (row_at R) places each))

filter_has : (p : ℕ → Bool) (xs : List ℕ) (k d : ℕ) → k < length xs → p (get_or xs k d) ≡ true → 0 < length (filter p xs)
filter_has p [] k d below e = absurd (omega arith)
filter_has p (x ∷ xs) zero d below e = rw e (omega arith)
filter_has p (x ∷ xs) (suc k) d below e = by (p x) (filter_has p xs k d (omega arith) e)
  where
    by : (b : Bool) → 0 < length (filter p xs) → 0 < length (cond b (x ∷ filter p xs) (filter p xs))
    by true h = omega arith
    by false h = h

-- each row stands at a place of its own
filled : (rows : List (List ℕ)) → All (λ key. 0 < length (places_with rows key)) rows
filled rows k d below =
    let n = length rows in
    let p = λ (place : ℕ). row_eq (row_at rows place) (get_or rows k d) in
    let at : get_or (range_with_len 0 n) k 0 ≡ k = let found = get_or-range_with_len 0 n k 0 below in omega (arith, found) in
    let here : row_at rows k ≡ get_or rows k d = get_or_default rows k [] d below in
    let passes : p (get_or (range_with_len 0 n) k 0) ≡ true = ap p at ∙ ap (λ row. row_eq row (get_or rows k d)) here ∙ row_itself (get_or rows k d) in
    filter_has p (range_with_len 0 n) k 0 (subst (λ m. k < m) (sym (length-range_with_len 0 n)) below) passes

pub distinct_filled : (rows : List (List ℕ)) → All (λ key. 0 < length (places_with rows key)) (distinct_rows rows)
distinct_filled rows = All-distinct_rows (λ key. 0 < length (places_with rows key)) rows (filled rows)

-- the groups of cut rows are places of the rows
pub groups_are_places : (keys : List ℕ) (rows : List (List ℕ)) → All (ArePlaces (length rows)) (grouped_places (map (cut keys) rows))
groups_are_places keys rows =
    let cuts = map (cut keys) rows in
    let each : All (λ key. ArePlaces (length rows) (places_with cuts key)) (distinct_rows cuts) = All-weaker (λ key. 0 < length (places_with cuts key)) (λ key. ArePlaces (length rows) (places_with cuts key))
    (λ key some. record { filled = some; within = subst (λ n. All (λ place. place < n) (places_with cuts key)) (length-map rows (cut keys)) (places_below cuts key) }) (distinct_rows cuts) (distinct_filled cuts) in
    All-map (ArePlaces (length rows)) (places_with cuts) (distinct_rows cuts) each

-- the block of a key: its rows have the key
block_of_key : (keys : List ℕ) (rows : List (List ℕ)) (key : List ℕ) → 0 < length (rows_with keys rows key) → block_key keys (rows_with keys rows key) ≡ key
block_of_key keys rows key some =
    let p = λ (row : List ℕ). row_eq (cut keys row) key in
    same_row (cut keys (get_or (rows_with keys rows key) 0 [])) key (filter_passes p rows 0 [] some)

pub group_by_places : (keys : List ℕ) (aggregates : List Aggregate) (rows : List (List ℕ))
    → map (λ places. block_row keys aggregates (map (row_at rows) places)) (grouped_places (map (cut keys) rows)) ≡ grouped_rows keys aggregates rows
group_by_places keys aggregates rows =
    let cuts = map (cut keys) rows in
    let made = λ (places : List ℕ). block_row keys aggregates (map (row_at rows) places) in
    let each : All (λ key. made (places_with cuts key) ≡ grouped_row keys aggregates rows key) (distinct_rows cuts) = All-weaker (λ key. 0 < length (places_with cuts key)) (λ key. made (places_with cuts key) ≡ grouped_row keys aggregates rows key)
    (λ key some.
    let e = rows_by_places keys rows key in
    let some_rows : 0 < length (rows_with keys rows key) = subst (λ n. 0 < n) (sym (ap length e ∙ length-map (places_with cuts key) (row_at rows))) some in
    ap (block_row keys aggregates) (sym e) ∙ ap (λ k. k ++ aggregates_of aggregates (rows_with keys rows key)) (block_of_key keys rows key some_rows)) (distinct_rows cuts) (distinct_filled cuts) in
    map_map made (places_with cuts) (distinct_rows cuts) ∙ map_agree (λ key. made (places_with cuts key)) (grouped_row keys aggregates rows) (distinct_rows cuts) each
