-- The columns and the rows of pairs.
use Rattle.std.proofs.Common.{◌≡◌, ℕ, zero, suc, ◌+◌, ◌*◌, ◌/◌, ◌%◌, ◌<◌, ◌≤◌, Bool, true, false, not, cond, nat_eq, List, [], ◌∷◌, ◌++◌, map, length, get_or, refl, sym, ap, ◌∙◌, arith}
use Rattle.std.specs.Prelude.{◌==◌}
use Rattle.std.specs.List.{list_any, range_with_len}
use Rattle.std.proofs.Math.Nat.{mul-le-mul_left}
use Rattle.std.proofs.lemmas.List.{append_assoc, length-map, map-append}
use Rattle.std.proofs.lemmas.List.Elements.{All-append, All-filter}
use Rattle.std.proofs.lemmas.List.FromFn.{fill_by_all, get_or-map-range_with_len, length-range_with_len}
use Rattle.lanes.specs.Items.{LaneItems}
use Rattle.lanes.specs.Lanes.{picked}
use Rattle.lanes.specs.Table.{PlacesOfTable, table_place}
use Rattle.padded.specs.Laws.{IsTableOfPairs}
use Rattle.padded.specs.Table.{AreBits, Table, column_at, columns_at}
use Rattle.plain_operators.specs.Columns.{cut, other_columns, word_at}
use Rattle.plain_operators.specs.Operators.{have_equal_keys, joined_row, left_keys, right_keys}
use Rattle.plain_operators.specs.Within.{HasColumns}
use Rattle.tapes.specs.RowLaws.{columns_applied, row_across}
use Rattle.shared_ops.specs.Pairs.{columns_of_pairs, left_numbers, left_places, match_words, right_numbers, right_places, rows_match}
use Rattle.shared_ops.proofs.Elements.{map_agree, map_map, range_below}
use Rattle.shared_ops.proofs.Matching.{at_column, left_count, right_count}

-- ---- the numbers of columns

others_within : (keys : List ℕ) (width : ℕ) → HasColumns (other_columns keys width) width
others_within keys width = All-filter (λ column. not (list_any (λ key. key == column) keys)) (λ column. column < width) (range_with_len 0 width) (range_below width)

pub left_numbers_within : (keys : List (ℕ × ℕ)) (width : ℕ) → HasColumns (left_keys keys) width → HasColumns (left_numbers keys width) width
left_numbers_within keys width within = All-append (λ column. column < width) (left_keys keys) (other_columns (left_keys keys) width) within (others_within (left_keys keys) width)

pub right_numbers_within : (keys : List (ℕ × ℕ)) (width : ℕ) → HasColumns (right_numbers keys width) width
right_numbers_within keys width = others_within (right_keys keys) width

-- ---- the words of columns

-- gathered columns one by one are all of them
pub all_gathered : (numbers places : List ℕ) (columns : List (List ℕ)) (n : ℕ) → n ≡ length numbers
    → map (λ k. picked places (column_at columns (get_or numbers k 0))) (range_with_len 0 n) ≡ columns_applied places (columns_at numbers columns)
all_gathered numbers places columns n same =
    let each = λ (column : ℕ). picked places (column_at columns column) in
    let all = range_with_len 0 (length numbers) in
    ap (λ m. map (λ k. each (get_or numbers k 0)) (range_with_len 0 m)) same
    ∙ sym (map_map each (λ k. get_or numbers k 0) all)
    ∙ ap (map each) (sym (fill_by_all (λ k. get_or numbers k 0) numbers (length numbers) 0 refl (λ k h. refl)))
    ∙ sym (map_map (picked places) (column_at columns) numbers)

-- their row at a place is the row gathered there, cut to the numbers
row_gathered : LaneItems → (numbers places : List ℕ) (columns : List (List ℕ)) (k : ℕ) → k < length places
    → row_across (columns_applied places (columns_at numbers columns)) k ≡ cut numbers (row_across columns (get_or places k 0))
row_gathered items numbers places columns k h =
    map_map (λ column. get_or column k 0) (picked places) (columns_at numbers columns)
    ∙ map_map (λ column. get_or (picked places column) k 0) (column_at columns) numbers
    ∙ map_agree (λ number. get_or (picked places (column_at columns number)) k 0) (λ number. word_at number (row_across columns (get_or places k 0))) numbers
    (λ j d w. items.pick places (column_at columns (get_or numbers j d)) k h ∙ at_column columns (get_or places k 0) (get_or numbers j d))

-- ---- the pair of rows at a place

module _ (items : LaneItems) (places : PlacesOfTable) (n m i j : ℕ) (first : i < n) (second : j < m) where
  within : table_place m i j < n * m
  within = places.within n m i j first second

  left_place : get_or (left_places n m) (table_place m i j) 0 ≡ i
  left_place = get_or-map-range_with_len (λ p. p / m) 0 (n * m) (table_place m i j) (table_place m i j) 0 within (omega arith) ∙ places.row m i j second

  right_place : get_or (right_places n m) (table_place m i j) 0 ≡ j
  right_place = get_or-map-range_with_len (λ p. p % m) 0 (n * m) (table_place m i j) (table_place m i j) 0 within (omega arith) ∙ places.column m i j second

  pub row_of_pair : (keys : List (ℕ × ℕ)) (lefts rights : List (List ℕ))
      → row_across (columns_of_pairs keys n m lefts rights) (table_place m i j) ≡ joined_row keys (row_across lefts i) (row_across rights j)
  row_of_pair keys lefts rights =
      let p = table_place m i j in
      let word = λ (column : List ℕ). get_or column p 0 in
      let of_left = left_numbers keys (length lefts) in
      let of_right = right_numbers keys (length rights) in
      let left = row_across lefts i in
      let right = row_across rights j in
      let keyed = cut (left_keys keys) left in
      let wide : length left ≡ length lefts = length-map lefts (λ column. get_or column i 0) in
      let wide_right : length right ≡ length rights = length-map rights (λ column. get_or column j 0) in
      map-append word (columns_applied (left_places n m) (columns_at of_left lefts)) (columns_applied (right_places n m) (columns_at of_right rights))
      ∙ (λ x.
      row_gathered items of_left (left_places n m) lefts p (omega (arith, within, left_count n m)) x
      ++ row_gathered items of_right (right_places n m) rights p (omega (arith, within, right_count n m)) x)
      ∙ (λ x. cut of_left (row_across lefts (left_place x)) ++ cut of_right (row_across rights (right_place x)))
      ∙ ap (λ l. l ++ cut of_right right) (map-append (λ column. word_at column left) (left_keys keys) (other_columns (left_keys keys) (length lefts)))
      ∙ append_assoc keyed (cut (other_columns (left_keys keys) (length lefts)) left) (cut of_right right)
      ∙ (λ x. keyed ++ (cut (other_columns (left_keys keys) (sym wide x)) left ++ cut (other_columns (right_keys keys) (sym wide_right x)) right))

  one_flag : (b : Bool) → nat_eq (cond b 1 0) 1 ≡ b
  one_flag true = refl
  one_flag false = refl

  pub live_of_pair : (keys : List (ℕ × ℕ)) (lefts rights : Table) → nat_eq (get_or (match_words keys lefts rights n m) (table_place m i j) 0) 1 ≡ rows_match keys lefts rights i j
  live_of_pair keys lefts rights =
      let p = table_place m i j in
      ap (λ word. nat_eq word 1) (get_or-map-range_with_len (λ q. cond (rows_match keys lefts rights (q / m) (q % m)) 1 0) 0 (n * m) p p 0 within (omega arith))
      ∙ one_flag (rows_match keys lefts rights (p / m) (p % m))
      ∙ (λ x. rows_match keys lefts rights (places.row m i j second x) (places.column m i j second x))

-- the table of joined rows is one of pairs
pub is_joined : LaneItems → PlacesOfTable → (keys : List (ℕ × ℕ)) (lefts rights : Table)
    → IsTableOfPairs (have_equal_keys keys) (joined_row keys) lefts rights (record {
      columns = columns_of_pairs keys (length lefts.valid) (length rights.valid) lefts.columns rights.columns;
      valid = match_words keys lefts rights (length lefts.valid) (length rights.valid);
    })
is_joined items places keys lefts rights =
    let n = length lefts.valid in
    let m = length rights.valid in
    record {
      count = length-map (range_with_len 0 (n * m)) (λ p. cond (rows_match keys lefts rights (p / m) (p % m)) 1 0) ∙ length-range_with_len 0 (n * m);
      live = λ i j first second. live_of_pair items places n m i j first second keys lefts rights;
      row = λ i j first second. row_of_pair items places n m i j first second keys lefts.columns rights.columns;
    }

pub join_at_most : (pairs keys : ℕ) → pairs * (7 * keys + 1) ≤ pairs * (7 * keys + 2)
join_at_most pairs keys = mul-le-mul_left pairs (omega arith)

-- ---- flags are bits

flag_at : {X : Type 0} (test : X → Bool) (xs : List X) (k : ℕ) → get_or (map (λ x. cond (test x) 1 0) xs) k 0 ≤ 1
flag_at test [] k = omega arith
flag_at test (x ∷ xs) zero = small (test x)
  where
    small : (b : Bool) → cond b 1 0 ≤ 1
    small true = omega arith
    small false = omega arith
flag_at test (x ∷ xs) (suc k) = flag_at test xs k

pub flags_are_bits : {X : Type 0} (test : X → Bool) (xs : List X) → AreBits (map (λ x. cond (test x) 1 0) xs)
flags_are_bits test xs = record { each = λ k. flag_at test xs k }
