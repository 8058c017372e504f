-- Zeroed columns, what opening them shows, and what is told.
use Rattle.std.proofs.Common.{◌≡◌, ℕ, zero, suc, ◌+◌, ◌-◌, ◌<◌, ◌≤◌, true, false, not, nat_eq, List, [], ◌∷◌, ◌++◌, map, replicate, length, get_or, refl, sym, ◌∙◌, ap, subst, arith}
use Rattle.std.specs.List.{All, filter, range_with_len}
use Rattle.std.specs.List.Sorted.{IsPermutation}
use Rattle.std.proofs.lemmas.Bool.{eqb-true, eq-eqb}
use Rattle.std.proofs.lemmas.List.{length-map, map-append, map-id, replicate_more}
use Rattle.std.proofs.lemmas.List.Elements.{All-filter, All-weaker, filter_passes}
use Rattle.std.proofs.lemmas.List.Filters.{length-filter_both}
use Rattle.std.proofs.lemmas.List.FromFn.{length-range_with_len}
use Rattle.std.proofs.lemmas.List.Sorted.{IsPermutation-filter_both, IsPermutation-map}
use Rattle.bags.specs.Bag.{SameBag}
use Rattle.bags.specs.Laws.{BagsArePermutations, BagsAreEquivalence, BagsKeepRows, BagsOfAppend, BagsOfMap, SortedIsInOrder, SortedTellsBags}
use Rattle.bags.specs.Sorted.{sorted}
use Rattle.lanes.specs.Items.{LaneItems}
use Rattle.lanes.specs.Lanes.{lanewise}
use Rattle.tapes.specs.RowLaws.{row_across}
use Rattle.padded.specs.Laws.{AreWide, OpenedOfBags, RowsOfZeroed, ToldOfBags}
use Rattle.padded.specs.Table.{AreBits, is_live, live, opened_rows, pad, rows_in, shown_rows, word_if_valid, zeroed_columns}
use Rattle.padded.proofs.Elements.{map_agree, map_map, range_below}
use Rattle.padded.proofs.Padding.{rows_padded}
use Rattle.padded.proofs.Rows.{live_is, live_within, rows_mapped}

-- the word of a zeroed column at a place
module _ (items : LaneItems) (valid : List ℕ) where
  zeroed_word : (column : List ℕ) (k : ℕ) → k < length valid → length column ≡ length valid → get_or (lanewise word_if_valid valid column) k 0 ≡ word_if_valid (get_or valid k 0) (get_or column k 0)
  zeroed_word column k h e = items.lane word_if_valid valid column k h (omega arith)

  zeroed_row : (columns : List (List ℕ)) (k flag : ℕ) → k < length valid → get_or valid k 0 ≡ flag → All (λ column. length column ≡ length valid) columns
      → row_across (zeroed_columns valid columns) k ≡ map (λ column. word_if_valid flag (get_or column k 0)) columns
  zeroed_row columns k flag h is long =
      map_map (λ column. get_or column k 0) (λ column. lanewise word_if_valid valid column) columns
      ∙ map_agree (λ column. get_or (lanewise word_if_valid valid column) k 0) (λ column. word_if_valid flag (get_or column k 0)) columns
      (λ j d w. zeroed_word (get_or columns j d) k h (long j d w) ∙ ap (λ f. word_if_valid f (get_or (get_or columns j d) k 0)) is)

  row_if_valid : (columns : List (List ℕ)) (k : ℕ) → k < length valid → get_or valid k 0 ≡ 1 → All (λ column. length column ≡ length valid) columns → row_across (zeroed_columns valid columns) k ≡ row_across columns k
  row_if_valid columns k h is long = zeroed_row columns k 1 h is long

  row_if_not : (columns : List (List ℕ)) (k : ℕ) → k < length valid → get_or valid k 0 ≡ 0 → All (λ column. length column ≡ length valid) columns → row_across (zeroed_columns valid columns) k ≡ replicate (length columns) 0
  row_if_not columns k h is long = zeroed_row columns k 0 h is long ∙ all_zero columns
    where
      all_zero : (lists : List (List ℕ)) → map (λ column. word_if_valid 0 (get_or column k 0)) lists ≡ replicate (length lists) 0
      all_zero [] = refl
      all_zero (list ∷ lists) = ap (λ l. 0 ∷ l) (all_zero lists)

all_same : {X Y : Type 0} (y : Y) (xs : List X) → map (λ x. y) xs ≡ replicate (length xs) y
all_same y [] = refl
all_same y (x ∷ xs) = ap (λ l. y ∷ l) (all_same y xs)

-- places without a row have the valid word 0
none_live : (valid : List ℕ) → AreBits valid → All (λ k. get_or valid k 0 ≡ 0) (filter (λ k. not (is_live valid k)) (range_with_len 0 (length valid)))
none_live valid bits =
    let left_out = λ (k : ℕ). not (is_live valid k) in
    let places = filter left_out (range_with_len 0 (length valid)) in
    All-weaker (λ k. left_out k ≡ true) (λ k. get_or valid k 0 ≡ 0) (λ k h. by (get_or valid k 0) (bits.each k) h) places (filter_passes left_out (range_with_len 0 (length valid)))
  where
    by : (word : ℕ) → word ≤ 1 → not (nat_eq word 1) ≡ true → word ≡ 0
    by zero small h = refl
    by (suc zero) small h = absurd (by_one h)
      where
        by_one : false ≡ true → ⊥
        by_one e = cc
    by (suc (suc word)) small h = absurd (omega arith)

module _ (items : LaneItems) (same_bags : BagsArePermutations) where
  zeroed_opened : (columns : List (List ℕ)) (valid : List ℕ) → AreBits valid → All (λ column. length column ≡ length valid) columns
      → SameBag (shown_rows (zeroed_columns valid columns) valid) (opened_rows (length columns) (length valid) (rows_in columns valid))
  zeroed_opened columns valid bits long =
      let zeroed = zeroed_columns valid columns in
      let n = length valid in
      let all = range_with_len 0 n in
      let left_out = λ (k : ℕ). not (is_live valid k) in
      let others = filter left_out all in
      let shown = row_across (zeroed ++ valid ∷ []) in
      let zeros : List ℕ = replicate (length columns + 1) 0 in
      let row_shown : (k : ℕ) → shown k ≡ row_across zeroed k ++ get_or valid k 0 ∷ [] = λ k. map-append (λ column. get_or column k 0) zeroed (valid ∷ []) in
      let moved : IsPermutation (map shown all) (map shown (live valid ++ others)) = IsPermutation-map shown all (live valid ++ others) (IsPermutation-filter_both (is_live valid) left_out (λ k. refl) all) in
      let first : map shown (live valid) ≡ map (λ row. row ++ 1 ∷ []) (rows_in columns valid) =
      map_agree shown (λ k. row_across columns k ++ 1 ∷ []) (live valid)
      (λ j d h.
      let k = get_or (live valid) j d in
      let is : get_or valid k 0 ≡ 1 = live_is valid j d h in
      row_shown k ∙ (λ i. row_if_valid items valid columns k (live_within valid j d h) is long i ++ is i ∷ []))
      ∙ sym (map_map (λ row. row ++ 1 ∷ []) (row_across columns) (live valid)) in
      let second : map shown others ≡ map (λ (k : ℕ). zeros) others =
      map_agree shown (λ k. zeros) others
      (λ j d h.
      let k = get_or others j d in
      let is : get_or valid k 0 ≡ 0 = none_live valid bits j d h in
      row_shown k ∙ (λ i. row_if_not items valid columns k (All-filter left_out (λ k. k < n) all (range_below n) j d h) is long i ++ is i ∷ []) ∙ replicate_more (length columns) 0) in
      let counts : length (live valid) + length others ≡ length all = length-filter_both (is_live valid) left_out (λ k. refl) all in
      let count : length others ≡ n - length (rows_in columns valid) = omega (arith, counts, length-range_with_len 0 n, length-map (live valid) (row_across columns)) in
      let parts : map shown (live valid ++ others) ≡ opened_rows (length columns) n (rows_in columns valid) =
      map-append shown (live valid) others ∙ (λ i. first i ++ (second ∙ all_same zeros others ∙ ap (λ m. replicate m zeros) count) i) in
      subst (λ (rows : List (List ℕ)). SameBag (map shown all) rows) parts ((same_bags (map shown all) (map shown (live valid ++ others))).1 moved)

  pub rows_zeroed : RowsOfZeroed
  rows_zeroed = record {
    same = λ columns valid long.
        rows_mapped (λ row. row) columns (zeroed_columns valid columns) valid (λ k h is. row_if_valid items valid columns k h is long) ∙ map-id (rows_in columns valid);
    opened = zeroed_opened;
  }

-- ---- bags

pub opened_bags : BagsAreEquivalence → BagsKeepRows → BagsOfMap → BagsOfAppend → OpenedOfBags
opened_bags equivalence keeps maps appends width count xs ys same =
    let valid = λ (row : List ℕ). row ++ 1 ∷ [] in
    let none : List ℕ = replicate (width + 1) 0 in
    let zeros = λ (rows : List (List ℕ)). replicate (count - length rows) none in
    let as_many : zeros xs ≡ zeros ys = ap (λ n. replicate (count - n) none) (keeps.lengths xs ys same) in
    let rest : SameBag (zeros xs) (zeros ys) = subst (λ (rows : List (List ℕ)). SameBag (zeros xs) rows) as_many (equivalence.itself (zeros xs)) in
    appends.both (map valid xs) (map valid ys) (zeros xs) (zeros ys) (maps valid xs ys same) rest

pub told_bags : BagsKeepRows → BagsAreEquivalence → SortedTellsBags → SortedIsInOrder → ToldOfBags
told_bags keeps equivalence tells in_order = record {
  same = λ width count xs ys same. ap (pad width count) ((tells xs ys).0 same);
  rows = λ width count rows wide room.
      let same = in_order.same_bag rows in
      let back = equivalence.back (sorted rows) rows same in
      let count_is : length (sorted rows) ≡ length rows = keeps.lengths (sorted rows) rows same in
      let is_wide = λ (row : List ℕ). nat_eq (length row) width in
      let tested : All (λ row. is_wide row ≡ true) (sorted rows) = keeps.tests is_wide rows (sorted rows) back (All-weaker (λ row. length row ≡ width) (λ row. is_wide row ≡ true) (λ row h. eq-eqb (length row) width h) rows wide) in
      let still_wide : AreWide width (sorted rows) = All-weaker (λ row. is_wide row ≡ true) (λ row. length row ≡ width) (λ row h. eqb-true (length row) width h) (sorted rows) tested in
      subst (λ (found : List (List ℕ)). SameBag found rows) (sym (rows_padded width count (sorted rows) still_wide (omega arith))) same;
}
