-- One row of the aggregates over all rows of a table.
use Rattle.std.proofs.Common.{◌≡◌, ℕ, zero, suc, ◌+◌, ◌*◌, ◌^◌, ◌<◌, ◌≤◌, Bool, true, false, ◌||◌, cond, nat_eq, List, [], ◌∷◌, bit_or, map, length, get_or, refl, sym, ap, ◌∙◌, arith}
use Rattle.std.specs.Prelude.{All}
use Rattle.std.specs.List.{filter, list_any, range_with_len}
use Rattle.std.proofs.lemmas.List.FromFn.{length-range_with_len}
use Rattle.lanes.specs.Folds.{words_folded}
use Rattle.lanes.specs.Table.{table_place}
use Rattle.lanes.specs.Word.{AreWords}
use Rattle.circuits.specs.Blocks.{blocks_folded}
use Rattle.circuits.specs.FoldLaws.{FoldsFromNeutral}
use Rattle.padded.specs.Table.{AreBits, Table, is_live, rows_in}
use Rattle.plain_operators.specs.declared.aggregate.Aggregate.{Aggregate}
use Rattle.plain_operators.specs.Folds.{AggregatesAreFolds, folded_by}
use Rattle.plain_operators.specs.Operators.{aggregated, aggregates_of, whole_table_rows}
use Rattle.plain_operators.specs.Within.{AreAggregatesOf, IsAggregateOf}
use Rattle.tapes.specs.RowLaws.{row_across}
use Rattle.shared_ops.specs.Groups.{aggregate_lanes, flagged_word}
use Rattle.shared_ops.proofs.Aggregating.{aggregate_is}
use Rattle.shared_ops.proofs.Elements.{map_agree, map_map}
use Rattle.shared_ops.proofs.Flags.{any_of_flags}

bit_is : (a : ℕ) → a ≤ 1 → a ≡ cond (nat_eq a 1) 1 0
bit_is zero small = refl
bit_is (suc zero) small = refl
bit_is (suc (suc a)) small = absurd (omega arith)

-- the only lane of a block for each row
flag_of : (valid : List ℕ) → AreBits valid → (j : ℕ) → get_or valid (j * 1 + 0) 0 ≡ cond (is_live valid j) 1 0
flag_of valid bits j = let same : j * 1 + 0 ≡ j = omega arith in ap (λ k. get_or valid k 0) same ∙ bit_is (get_or valid j 0) (bits.each j)

-- the or of all valid words
pub any_valid : (valid : List ℕ) (n : ℕ) → AreBits valid → blocks_folded bit_or n 1 valid ≡ cond (list_any (is_live valid) (range_with_len 0 n)) 1 0 ∷ []
any_valid valid n bits =
    let all = range_with_len 0 n in
    ap (λ word. word ∷ []) (ap (words_folded bit_or) (map_agree (λ j. get_or valid (j * 1 + 0) 0) (λ j. cond (is_live valid j) 1 0) all (λ k d h. flag_of valid bits (get_or all k d))) ∙ any_of_flags (is_live valid) all)

pub any_bits : (b : Bool) → AreBits (cond b 1 0 ∷ [])
any_bits b = record { each = λ k. by b k }
  where
    by : (c : Bool) (k : ℕ) → get_or (cond c 1 0 ∷ []) k 0 ≤ 1
    by true zero = omega arith
    by false zero = omega arith
    by true (suc k) = omega arith
    by false (suc k) = omega arith

-- one row where a row stands
rows_of_any : (columns : List (List ℕ)) (b : Bool) → rows_in columns (cond b 1 0 ∷ []) ≡ cond b (row_across columns 0 ∷ []) []
rows_of_any columns true = refl
rows_of_any columns false = refl

some_row : (aggregates : List Aggregate) (row : ℕ → List ℕ) (stands : ℕ → Bool) (places : List ℕ)
    → whole_table_rows aggregates (map row (filter stands places)) ≡ cond (list_any stands places) (aggregates_of aggregates (map row (filter stands places)) ∷ []) []
some_row aggregates row stands [] = refl
some_row aggregates row stands (p ∷ places) = by (stands p) (some_row aggregates row stands places)
  where
    by : (b : Bool) → whole_table_rows aggregates (map row (filter stands places)) ≡ cond (list_any stands places) (aggregates_of aggregates (map row (filter stands places)) ∷ []) []
        → whole_table_rows aggregates (map row (cond b (p ∷ filter stands places) (filter stands places)))
        ≡ cond (b || list_any stands places) (aggregates_of aggregates (map row (cond b (p ∷ filter stands places) (filter stands places))) ∷ []) []
    by true rest = refl
    by false rest = rest

module _ (neutral : FoldsFromNeutral) (folds : AggregatesAreFolds) (aggregates : List Aggregate) (t : Table) (n : ℕ) (long : length t.valid ≡ n) (bits : AreBits t.valid)
    (words : All AreWords t.columns) (fits : AreAggregatesOf aggregates (length t.columns)) (some : 0 < n) (few : n < 2 ^ 64) where
  one_aggregate : (aggregate : Aggregate) → IsAggregateOf (length t.columns) aggregate → get_or (aggregate_lanes aggregate n 1 t.valid t.columns) 0 0 ≡ aggregated aggregate (rows_in t.columns t.valid)
  one_aggregate aggregate of =
      let all = range_with_len 0 n in
      ap (words_folded (folded_by aggregate)) (map_agree (λ j. flagged_word aggregate t.columns (get_or t.valid (table_place 1 j 0) 0) j) (λ j. flagged_word aggregate t.columns (cond (is_live t.valid j) 1 0) j) all
      (λ k d w. ap (λ flag. flagged_word aggregate t.columns flag (get_or all k d)) (flag_of t.valid bits (get_or all k d))))
      ∙ aggregate_is neutral folds aggregate t.columns words of (is_live t.valid) all (omega (arith, length-range_with_len 0 n)) (omega (arith, length-range_with_len 0 n))
      ∙ ap (λ m. aggregated aggregate (map (row_across t.columns) (filter (is_live t.valid) (range_with_len 0 m)))) (sym long)

  pub whole_made : rows_in (map (λ aggregate. aggregate_lanes aggregate n 1 t.valid t.columns) aggregates) (blocks_folded bit_or n 1 t.valid) ≡ whole_table_rows aggregates (rows_in t.columns t.valid)
  whole_made =
      let lanes = λ (aggregate : Aggregate). aggregate_lanes aggregate n 1 t.valid t.columns in
      let rows = rows_in t.columns t.valid in
      let any = list_any (is_live t.valid) (range_with_len 0 n) in
      ap (rows_in (map lanes aggregates)) (any_valid t.valid n bits) ∙ rows_of_any (map lanes aggregates) any
      ∙ ap (λ row. cond any (row ∷ []) []) (map_map (λ (column : List ℕ). get_or column 0 0) lanes aggregates ∙ map_agree (λ aggregate. get_or (lanes aggregate) 0 0) (λ aggregate. aggregated aggregate rows) aggregates
      (λ k d w. one_aggregate (get_or aggregates k d) (fits k d w)))
      ∙ ap (λ m. cond (list_any (is_live t.valid) (range_with_len 0 m)) (aggregates_of aggregates rows ∷ []) []) (sym long)
      ∙ sym (some_row aggregates (row_across t.columns) (is_live t.valid) (range_with_len 0 (length t.valid)))
