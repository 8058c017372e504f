-- The table of rows.
use Rattle.std.proofs.Common.{◌≡◌, ℕ, zero, suc, ◌+◌, ◌<◌, ◌≤◌, ◌^◌, Bool, true, false, cond, ltb, nat_eq, List, [], ◌∷◌, map, length, get_or, refl, sym, ◌∙◌, ap, arith}
use Rattle.std.specs.List.{All, filter, range_with_len}
use Rattle.std.proofs.lemmas.Bool.{le-ltb, lt-ltb}
use Rattle.std.proofs.lemmas.List.Elements.{All-head, All-map, All-push, All-tail, All-weaker}
use Rattle.std.proofs.lemmas.List.FromFn.{get_or-map-range_with_len, length-map-range_with_len}
use Rattle.lanes.specs.Word.{AreWords}
use Rattle.tapes.specs.Align.{row_at}
use Rattle.tapes.specs.RowLaws.{row_across}
use Rattle.padded.specs.Laws.{AreWide, PaddedFits, RowsOfPadded}
use Rattle.padded.specs.Table.{is_live, live, padded_column, padded_columns, padded_valid, valid_up_to}
use Rattle.padded.proofs.Elements.{at_places, each_of_map, filter_agree_on, filter_none, map_agree, map_map, range_below, range_within}

-- the numbers of a range below a limit in it
below_limit : (a n m limit : ℕ) → m ≤ n → a + m ≡ limit → filter (λ k. ltb k limit) (range_with_len a n) ≡ range_with_len a m
below_limit a zero zero limit h e = refl
below_limit a zero (suc m) limit h e = absurd (omega arith)
below_limit a (suc n) zero limit h e =
    filter_none (λ k. ltb k limit) (range_with_len a (suc n))
    (All-weaker (λ k. (a ≤ k) × (k < a + suc n)) (λ k. ltb k limit ≡ false) (λ k w. let low : a ≤ k = w.0 in le-ltb k limit (omega arith)) (range_with_len a (suc n)) (range_within a (suc n)))
below_limit a (suc n) (suc m) limit h e =
    rw (lt-ltb a limit (omega arith)) (ap (λ l. a ∷ l) (below_limit (a + 1) n m limit (omega arith) (omega arith)))

bit_is_one : (b : Bool) → nat_eq (cond b 1 0) 1 ≡ b
bit_is_one true = refl
bit_is_one false = refl

-- a row stands at the first places, as many as there are rows
live_up_to : (rows count : ℕ) → rows ≤ count → live (valid_up_to rows count) ≡ range_with_len 0 rows
live_up_to rows count h =
    let bit : ℕ → ℕ = λ k. cond (ltb k rows) 1 0 in
    let all = range_with_len 0 count in
    ap (λ n. filter (is_live (valid_up_to rows count)) (range_with_len 0 n)) (length-map-range_with_len bit 0 count)
    ∙ filter_agree_on (is_live (valid_up_to rows count)) (λ k. ltb k rows) all
    (λ k d w.
    let place = get_or all k d in
    ap (λ n. nat_eq n 1) (get_or-map-range_with_len bit 0 count place place 0 (range_below count k d w) (omega arith)) ∙ bit_is_one (ltb place rows))
    ∙ below_limit 0 count rows rows h (omega arith)

-- the words of padded columns at a place are the row there
row_of_padded : (width count : ℕ) (rows : List (List ℕ)) (place : ℕ) → AreWide width rows → length rows ≤ count → place < length rows → row_across (padded_columns width count rows) place ≡ row_at rows place
row_of_padded width count rows place wide room within =
    let row = row_at rows place in
    let numbers = range_with_len 0 width in
    map_map (λ column. get_or column place 0) (padded_column count rows) numbers
    ∙ map_agree (λ column. get_or (padded_column count rows column) place 0) (λ column. get_or row column 0) numbers
    (λ k d h. get_or-map-range_with_len (λ at. get_or (row_at rows at) (get_or numbers k d) 0) 0 count place place 0 (omega arith) (omega arith))
    ∙ ap (λ n. map (λ column. get_or row column 0) (range_with_len 0 n)) (sym (wide place [] within))
    ∙ at_places 0 row

pub rows_padded : RowsOfPadded
rows_padded width count rows wide room =
    let columns = padded_columns width count rows in
    let places = range_with_len 0 (length rows) in
    ap (map (row_across columns)) (live_up_to (length rows) count room)
    ∙ map_agree (row_across columns) (row_at rows) places (λ k d h. row_of_padded width count rows (get_or places k d) wide room (range_below (length rows) k d h))
    ∙ at_places [] rows

-- ---- what its columns are

word_of_row : (rows : List (List ℕ)) (place column : ℕ) → All AreWords rows → get_or (row_at rows place) column 0 < 2 ^ 64
word_of_row [] place column words = omega arith
word_of_row (row ∷ rows) zero column words = (All-head AreWords row rows words).below column
word_of_row (row ∷ rows) (suc place) column words = word_of_row rows place column (All-tail AreWords row rows words)

column_of_words : (count : ℕ) (rows : List (List ℕ)) (column : ℕ) → All AreWords rows → AreWords (padded_column count rows column)
column_of_words count rows column words = record {
  below = each_of_map (λ n. n < 2 ^ 64) (λ place. get_or (row_at rows place) column 0) (range_with_len 0 count) (omega arith) (λ k d h. word_of_row rows (get_or (range_with_len 0 count) k d) column words);
}

bit_small : (b : Bool) → cond b 1 0 ≤ 1
bit_small true = omega arith
bit_small false = omega arith

valid_bits : (rows count : ℕ) (k : ℕ) → get_or (valid_up_to rows count) k 0 ≤ 1
valid_bits rows count = each_of_map (λ n. n ≤ 1) (λ place. cond (ltb place rows) 1 0) (range_with_len 0 count) (omega arith) (λ k d h. bit_small (ltb (get_or (range_with_len 0 count) k d) rows))

pub padded_fits : PaddedFits
padded_fits = record {
  width = λ width count rows. length-map-range_with_len (padded_column count rows) 0 width;
  lengths = λ width count rows.
      All-push (λ column. length column ≡ count) (padded_columns width count rows) (padded_valid count rows)
      (All-map (λ column. length column ≡ count) (padded_column count rows) (range_with_len 0 width) (λ k d h. length-map-range_with_len (λ place. get_or (row_at rows place) (get_or (range_with_len 0 width) k d) 0) 0 count))
      (length-map-range_with_len (λ place. cond (ltb place (length rows)) 1 0) 0 count);
  bits = λ count rows. record { each = valid_bits (length rows) count };
  words = λ width count rows words.
      All-push AreWords (padded_columns width count rows) (padded_valid count rows)
      (All-map AreWords (padded_column count rows) (range_with_len 0 width) (λ k d h. column_of_words count rows (get_or (range_with_len 0 width) k d) words))
      (record { below = λ k. let small : get_or (padded_valid count rows) k 0 ≤ 1 = valid_bits (length rows) count k in omega arith });
}
