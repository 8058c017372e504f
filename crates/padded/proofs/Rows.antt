-- The valid rows of a table: how many, how wide, and those of other columns or other valid words.
use Rattle.std.proofs.Common.{◌≡◌, ℕ, ◌+◌, ◌<◌, ◌≤◌, ◌^◌, true, false, cond, not, List, [], map, length, get_or, refl, sym, ◌∙◌, ap, arith}
use Rattle.std.specs.List.{All, filter, range_with_len}
use Rattle.std.proofs.Math.ListN.{get_or-map}
use Rattle.std.proofs.lemmas.Bool.{eqb-true}
use Rattle.std.proofs.lemmas.List.{length-map}
use Rattle.std.proofs.lemmas.List.Elements.{All-filter, All-map, All-weaker, filter_passes}
use Rattle.std.proofs.lemmas.List.Filters.{length-filter_both}
use Rattle.std.proofs.lemmas.List.FromFn.{length-range_with_len}
use Rattle.lanes.specs.Lanes.{picked}
use Rattle.lanes.specs.Word.{AreWords}
use Rattle.tapes.specs.RowLaws.{row_across}
use Rattle.padded.specs.Laws.{RowsFitTable, RowsOfCut, RowsOfKept, RowsOfMapped}
use Rattle.padded.specs.Table.{column_at, columns_at, is_live, live}
use Rattle.padded.proofs.Elements.{each_of_map, filter-map, filter_agree_on, filter_filter, map_agree, map_map, range_below}

-- each place at which a row stands is one of the table, with the valid word 1
pub live_within : (valid : List ℕ) → All (λ k. k < length valid) (live valid)
live_within valid = All-filter (is_live valid) (λ k. k < length valid) (range_with_len 0 (length valid)) (range_below (length valid))

pub live_is : (valid : List ℕ) → All (λ k. get_or valid k 0 ≡ 1) (live valid)
live_is valid = All-weaker (λ k. is_live valid k ≡ true) (λ k. get_or valid k 0 ≡ 1) (λ k h. eqb-true (get_or valid k 0) 1 h) (live valid) (filter_passes (is_live valid) (range_with_len 0 (length valid)))

pub length-live : (valid : List ℕ) → length (live valid) ≤ length valid
length-live valid =
    let all = range_with_len 0 (length valid) in
    let both : length (live valid) + length (filter (λ k. not (is_live valid k)) all) ≡ length all = length-filter_both (is_live valid) (λ k. not (is_live valid k)) (λ k. refl) all in
    let count : length all ≡ length valid = length-range_with_len 0 (length valid) in
    omega arith

row_of_words : (columns : List (List ℕ)) (place : ℕ) → All AreWords columns → AreWords (row_across columns place)
row_of_words columns place words = record {
  below = each_of_map (λ n. n < 2 ^ 64) (λ column. get_or column place 0) columns (omega arith) (All-weaker AreWords (λ column. get_or column place 0 < 2 ^ 64) (λ column h. h.below place) columns words);
}

pub rows_fit : RowsFitTable
rows_fit = record {
  count = λ columns valid. omega (arith, length-map (live valid) (row_across columns), length-live valid);
  wide = λ columns valid. All-map (λ row. length row ≡ length columns) (row_across columns) (live valid) (λ k d h. length-map columns (λ column. get_or column (get_or (live valid) k d) 0));
  words = λ columns valid words. All-map AreWords (row_across columns) (live valid) (λ k d h. row_of_words columns (get_or (live valid) k d) words);
}

pub rows_mapped : RowsOfMapped
rows_mapped f columns others valid same =
    map_agree (row_across others) (λ k. f (row_across columns k)) (live valid) (λ k d h. same (get_or (live valid) k d) (live_within valid k d h) (live_is valid k d h))
    ∙ sym (map_map f (row_across columns) (live valid))

row_of_cut : (numbers : List ℕ) (columns : List (List ℕ)) (place : ℕ) → row_across (columns_at numbers columns) place ≡ picked numbers (row_across columns place)
row_of_cut numbers columns place =
    map_map (λ column. get_or column place 0) (column_at columns) numbers
    ∙ map_agree (λ number. get_or (column_at columns number) place 0) (λ number. get_or (row_across columns place) number 0) numbers
    (λ k d h. sym (get_or-map (λ (column : List ℕ). get_or column place 0) columns (get_or numbers k d) []))

pub rows_cut : RowsOfCut
rows_cut numbers columns valid = rows_mapped (picked numbers) columns (columns_at numbers columns) valid (λ k h is. row_of_cut numbers columns k)

pub rows_kept : RowsOfKept
rows_kept test columns valid kept same tells =
    let all = range_with_len 0 (length valid) in
    let passes = λ (k : ℕ). test (row_across columns k) in
    let left_in = λ (k : ℕ). cond (is_live valid k) (passes k) false in
    let places : live kept ≡ filter passes (live valid) =
    ap (λ n. filter (is_live kept) (range_with_len 0 n)) same
    ∙ filter_agree_on (is_live kept) left_in all (λ k d h. tells (get_or all k d) (range_below (length valid) k d h))
    ∙ sym (filter_filter passes (is_live valid) all) in
    ap (map (row_across columns)) places ∙ sym (filter-map test (row_across columns) (live valid))
