-- Tables whose words are gathered, put in another order, or appended.
use Rattle.std.proofs.Common.{◌≡◌, ℕ, ◌+◌, ◌<◌, nat_eq, List, [], ◌∷◌, ◌++◌, map, length, get_or, refl, sym, ◌∙◌, ap, subst, arith, length-append}
use Rattle.std.specs.List.{filter, range_with_len}
use Rattle.std.proofs.lemmas.List.{get_or-append-add, get_or-map, get_or_append_left, get_or_default, length-map, map-append}
use Rattle.std.proofs.lemmas.List.Elements.{All-filter, All-head, All-tail, filter-append}
use Rattle.std.proofs.lemmas.List.FromFn.{get_or-map-range_with_len, length-map-range_with_len}
use Rattle.bags.specs.Bag.{SameBag}
use Rattle.bags.specs.Laws.{BagsOfFilter, BagsOfMap}
use Rattle.lanes.specs.Lanes.{picked}
use Rattle.tapes.specs.Align.{row_at, rows_applied}
use Rattle.tapes.specs.Order.{IsOrder, applied}
use Rattle.tapes.specs.RowLaws.{RowsOfOrders, columns_applied, row_across}
use Rattle.padded.specs.Laws.{RowsOfAppended, RowsOfGathered, RowsOfOrdered}
use Rattle.padded.specs.Table.{IsTable, Table, appended, appended_column, column_at, is_live, live, rows_in}
use Rattle.padded.proofs.Elements.{at_places, filter-map, filter_agree_on, map_agree, map_map, range_below, range_split}
use Rattle.padded.proofs.Rows.{live_within}

row_of_gathered : (places : List ℕ) (columns : List (List ℕ)) (k : ℕ) → k < length places → row_across (columns_applied places columns) k ≡ row_across columns (get_or places k 0)
row_of_gathered places [] k h = refl
row_of_gathered places (column ∷ columns) k h = λ i. get_or-map (λ p. get_or column p 0) places k 0 0 h i ∷ row_of_gathered places columns k h i

pub rows_gathered : RowsOfGathered
rows_gathered places columns valid =
    let moved = columns_applied places columns in
    let flags = picked places valid in
    let n = length places in
    let all = range_with_len 0 n in
    let there = λ (k : ℕ). get_or places k 0 in
    let found = filter (λ k. is_live valid (there k)) all in
    let count : length flags ≡ n = length-map places (λ p. get_or valid p 0) in
    let places_are : live flags ≡ found =
    ap (λ m. filter (is_live flags) (range_with_len 0 m)) count
    ∙ filter_agree_on (is_live flags) (λ k. is_live valid (there k)) all (λ k d h. ap (λ word. nat_eq word 1) (get_or-map (λ p. get_or valid p 0) places (get_or all k d) 0 0 (range_below n k d h))) in
    ap (map (row_across moved)) places_are
    ∙ map_agree (row_across moved) (λ k. row_across columns (there k)) found
    (λ k d h. row_of_gathered places columns (get_or found k d) (All-filter (λ k. is_live valid (there k)) (λ k. k < n) all (range_below n) k d h))
    ∙ sym (map_map (row_across columns) there found)
    ∙ ap (map (row_across columns)) (sym (filter-map (is_live valid) there all) ∙ ap (filter (is_live valid)) (at_places 0 places))

-- ---- an order

-- a number as a row of one word
abbrev single : ℕ → List ℕ
single k = k ∷ []

rows_of_numbers : (o : List ℕ) → IsOrder o → rows_applied o (map single (range_with_len 0 (length o))) ≡ map single o
rows_of_numbers o ok =
    map_agree (row_at (map single (range_with_len 0 (length o)))) single o
    (λ k d h.
    let number = get_or o k d in
    let same : number ≡ get_or o k 0 = get_or_default o k d 0 h in
    let small : number < length o = subst (λ (n : ℕ). n < length o) (sym same) (ok.below k h) in
    get_or-map-range_with_len single 0 (length o) number number [] small (omega arith))

pub rows_ordered : RowsOfOrders → BagsOfFilter → BagsOfMap → RowsOfOrdered
rows_ordered orders filters maps o columns valid ok e =
    let n = length o in
    let all = range_with_len 0 n in
    let test = λ (row : List ℕ). is_live valid (get_or row 0 0) in
    let there = λ (row : List ℕ). row_across columns (get_or row 0 0) in
    let kept : (numbers : List ℕ) → map there (filter test (map single numbers)) ≡ map (row_across columns) (filter (is_live valid) numbers) = λ numbers.
    ap (map there) (filter-map test single numbers) ∙ map_map there single (filter (is_live valid) numbers) in
    let long : length o ≡ length (map single all) = sym (length-map-range_with_len single 0 n) in
    let numbers : SameBag (map single o) (map single all) = subst (λ (rows : List (List ℕ)). SameBag rows (map single all)) (rows_of_numbers o ok) (orders.bag o (map single all) ok long) in
    let images = maps there (filter test (map single o)) (filter test (map single all)) (filters test (map single o) (map single all) numbers) in
    let left : map there (filter test (map single o)) ≡ rows_in (columns_applied o columns) (applied o valid) = kept o ∙ sym (rows_gathered o columns valid) in
    let right : map there (filter test (map single all)) ≡ rows_in columns valid = kept all ∙ ap (λ m. map (row_across columns) (filter (is_live valid) (range_with_len 0 m))) e in
    subst (λ (rows : List (List ℕ)). SameBag rows (rows_in columns valid)) left (subst (λ (rows : List (List ℕ)). SameBag (map there (filter test (map single o))) rows) right images)

-- ---- tables one behind the other

live_appended : (first rest : List ℕ) → live (first ++ rest) ≡ live first ++ map (λ j. length first + j) (live rest)
live_appended first rest =
    let m = length first in
    let n = length rest in
    let whole = first ++ rest in
    let early = range_with_len 0 m in
    let late = range_with_len 0 n in
    let shift = λ (j : ℕ). m + j in
    ap (λ t. filter (is_live whole) (range_with_len 0 t)) (length-append first rest)
    ∙ ap (filter (is_live whole)) (range_split m n)
    ∙ filter-append (is_live whole) early (map shift late)
    ∙ (λ i.
    filter_agree_on (is_live whole) (is_live first) early (λ k d h. ap (λ word. nat_eq word 1) (get_or_append_left first rest 0 (get_or early k d) (range_below m k d h))) i
    ++ (filter-map (is_live whole) shift late
    ∙ ap (map shift) (filter_agree_on (λ j. is_live whole (shift j)) (is_live rest) late (λ k d h. ap (λ word. nat_eq word 1) (get_or-append-add first rest (get_or late k d) 0)))) i)

row_of_appended : (width : ℕ) (tables : List Table) (place : ℕ) → row_across ((appended width tables).columns) place ≡ map (λ column. get_or (appended_column tables column) place 0) (range_with_len 0 width)
row_of_appended width tables place = map_map (λ column. get_or column place 0) (appended_column tables) (range_with_len 0 width)

-- the first table's rows, and those behind them
row_of_first : (width : ℕ) (table : Table) (tables : List Table) (place : ℕ) → IsTable width table → place < length table.valid → row_across ((appended width (table ∷ tables)).columns) place ≡ row_across table.columns place
row_of_first width table tables place is h =
    let numbers = range_with_len 0 width in
    let word = λ (column : ℕ). get_or (column_at table.columns column) place 0 in
    let words = λ (column : List ℕ). get_or column place 0 in
    row_of_appended width (table ∷ tables) place
    ∙ map_agree (λ column. get_or (appended_column (table ∷ tables) column) place 0) word numbers
    (λ k d w.
    let number = get_or numbers k d in
    let within : number < length table.columns = omega (arith, range_below width k d w, is.wide) in
    let long : length (column_at table.columns number) ≡ length table.valid = is.lengths number [] within in
    get_or_append_left (column_at table.columns number) (appended_column tables number) 0 place (omega arith))
    ∙ sym (map_map words (column_at table.columns) numbers)
    ∙ ap (map words) (ap (λ n. map (column_at table.columns) (range_with_len 0 n)) (sym is.wide) ∙ at_places [] table.columns)

row_of_later : (width : ℕ) (table : Table) (tables : List Table) (place : ℕ) → IsTable width table → row_across ((appended width (table ∷ tables)).columns) (length table.valid + place) ≡ row_across ((appended width tables).columns) place
row_of_later width table tables place is =
    let numbers = range_with_len 0 width in
    let here = length table.valid + place in
    row_of_appended width (table ∷ tables) here
    ∙ map_agree (λ column. get_or (appended_column (table ∷ tables) column) here 0) (λ column. get_or (appended_column tables column) place 0) numbers
    (λ k d w.
    let number = get_or numbers k d in
    let within : number < length table.columns = omega (arith, range_below width k d w, is.wide) in
    let long : length (column_at table.columns number) ≡ length table.valid = is.lengths number [] within in
    ap (λ n. get_or (column_at table.columns number ++ appended_column tables number) (n + place) 0) (sym long)
    ∙ get_or-append-add (column_at table.columns number) (appended_column tables number) place 0)
    ∙ sym (row_of_appended width tables place)

pub rows_appended : RowsOfAppended
rows_appended width [] all = refl
rows_appended width (table ∷ tables) all =
    let is = All-head (IsTable width) table tables all in
    let rest = appended width tables in
    let columns = (appended width (table ∷ tables)).columns in
    let shift = λ (j : ℕ). length table.valid + j in
    ap (map (row_across columns)) (live_appended table.valid rest.valid)
    ∙ map-append (row_across columns) (live table.valid) (map shift (live rest.valid))
    ∙ (λ i.
    map_agree (row_across columns) (row_across table.columns) (live table.valid) (λ k d h. row_of_first width table tables (get_or (live table.valid) k d) is (live_within table.valid k d h)) i
    ++ (map_map (row_across columns) shift (live rest.valid)
    ∙ map_agree (λ j. row_across columns (shift j)) (row_across rest.columns) (live rest.valid) (λ k d h. row_of_later width table tables (get_or (live rest.valid) k d) is)
    ∙ rows_appended width tables (All-tail (IsTable width) table tables all)) i)
