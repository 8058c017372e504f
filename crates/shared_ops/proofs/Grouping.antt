-- The rows of a table of the first places: distinct rows, and the rows of a group.
use Rattle.std.proofs.Common.{◌≡◌, ℕ, ◌^◌, ◌<◌, Bool, true, false, ◌&&◌, ◌||◌, cond, not, List, [], ◌∷◌, ◌++◌, map, length, get_or, refl, sym, ap, ◌∙◌, arith}
use Rattle.std.specs.Prelude.{All}
use Rattle.std.specs.List.{filter, list_any, range_with_len}
use Rattle.std.proofs.lemmas.List.{length-map, map-append}
use Rattle.std.proofs.lemmas.List.Elements.{All-filter, filter_passes}
use Rattle.std.proofs.lemmas.List.FromFn.{fill_by_all, get_or-map-range_with_len, length-range_with_len}
use Rattle.lanes.specs.Table.{PlacesOfTable, table_place}
use Rattle.lanes.specs.Word.{AreWords}
use Rattle.bags.specs.Bag.{row_eq}
use Rattle.circuits.specs.FoldLaws.{FoldsFromNeutral}
use Rattle.lanes.specs.Folds.{words_folded}
use Rattle.padded.specs.Table.{Table, column_at, is_live, rows_in}
use Rattle.plain_operators.specs.Columns.{cut, word_at}
use Rattle.plain_operators.specs.declared.aggregate.Aggregate.{Aggregate}
use Rattle.plain_operators.specs.Firsts.{DistinctOfFirsts, GroupOfFirsts, is_first, places_alike, standing}
use Rattle.plain_operators.specs.Folds.{AggregatesAreFolds, folded_by}
use Rattle.plain_operators.specs.Operators.{aggregated, aggregates_of, distinct_rows, grouped_rows}
use Rattle.plain_operators.specs.Within.{AreAggregatesOf, IsAggregateOf}
use Rattle.tapes.specs.RowLaws.{row_across}
use Rattle.shared_ops.specs.Firsts.{keys_across}
use Rattle.shared_ops.specs.Groups.{aggregate_lanes, aggregate_word, flagged_word, with_themselves}
use Rattle.shared_ops.specs.Pairs.{match_words, rows_match}
use Rattle.shared_ops.proofs.Aggregating.{aggregate_is, word_across}
use Rattle.shared_ops.proofs.Elements.{map_agree, map_map, range_below}
use Rattle.shared_ops.proofs.Filters.{filter_agree_on, filter_filter}
use Rattle.shared_ops.proofs.Flags.{flag_at, same_keys}

-- the places that stay valid are those that are first
firsts_live : (first : ℕ → Bool) (valid : List ℕ) (n : ℕ) → length valid ≡ n → ((k : ℕ) → k < n → is_live valid k ≡ first k) → filter (is_live valid) (range_with_len 0 (length valid)) ≡ standing first n
firsts_live first valid n long each =
    ap (λ m. filter (is_live valid) (range_with_len 0 m)) long ∙ filter_agree_on (is_live valid) first (range_with_len 0 n) (λ i d h. each (get_or (range_with_len 0 n) i d) (range_below n i d h))

-- keys that are all columns are the row
all_keys : (columns : List (List ℕ)) (place : ℕ) → keys_across (range_with_len 0 (length columns)) columns place ≡ row_across columns place
all_keys columns place = sym (fill_by_all (λ k. word_at k (row_across columns place)) (row_across columns place) (length columns) 0 (length-map columns (λ (column : List ℕ). get_or column place 0)) (λ k h. refl))

pub distinct_made : DistinctOfFirsts → (t : Table) (valid : List ℕ) (n : ℕ) → length t.valid ≡ n → length valid ≡ n
    → ((k : ℕ) → k < n → is_live valid k ≡ is_first (is_live t.valid) (keys_across (range_with_len 0 (length t.columns)) t.columns) k)
    → rows_in t.columns valid ≡ distinct_rows (rows_in t.columns t.valid)
distinct_made law t valid n given long each =
    let keys = range_with_len 0 (length t.columns) in
    let row = row_across t.columns in
    ap (map row) (firsts_live (is_first (is_live t.valid) (keys_across keys t.columns)) valid n long each
    ∙ filter_agree_on (is_first (is_live t.valid) (keys_across keys t.columns)) (is_first (is_live t.valid) row) (range_with_len 0 n)
    (λ i d h. let k = get_or (range_with_len 0 n) i d in
    ap (λ b. cond (is_live t.valid k) b false) (ap not (any_same (λ j. cond (is_live t.valid j) (row_eq (keys_across keys t.columns j) (keys_across keys t.columns k)) false) (λ j. cond (is_live t.valid j) (row_eq (row j) (row k)) false)
    (λ j. (λ s. cond (is_live t.valid j) (row_eq (all_keys t.columns j s) (all_keys t.columns k s)) false)) (range_with_len 0 k)))))
    ∙ sym (law (is_live t.valid) row n)
    ∙ ap (λ m. distinct_rows (map row (standing (is_live t.valid) m))) (sym given)
  where
    any_same : (p q : ℕ → Bool) → ((x : ℕ) → p x ≡ q x) → (xs : List ℕ) → list_any p xs ≡ list_any q xs
    any_same p q each [] = refl
    any_same p q each (x ∷ xs) = λ i. each x i || any_same p q each xs i

module _ (group : GroupOfFirsts) (neutral : FoldsFromNeutral) (folds : AggregatesAreFolds) (places : PlacesOfTable) (keys : List ℕ) (aggregates : List Aggregate) (t : Table) (n : ℕ)
    (words : All AreWords t.columns) (fits : AreAggregatesOf aggregates (length t.columns)) (few : n < 2 ^ 64) where
  abbrev flags : List ℕ
  flags = match_words (with_themselves keys) t t n n

  abbrev row : ℕ → List ℕ
  row = row_across t.columns

  -- the columns of a group in lanes
  abbrev pub group_columns : List (List ℕ)
  group_columns = map (column_at t.columns) keys ++ map (λ aggregate. aggregate_lanes aggregate n n flags t.columns) aggregates

  -- the rows that match a row that stands are those with its keys
  alike : (i : ℕ) → is_live t.valid i ≡ true → filter (λ j. rows_match (with_themselves keys) t t j i) (range_with_len 0 n) ≡ places_alike keys (is_live t.valid) row n i
  alike i live =
      filter_agree_on (λ j. rows_match (with_themselves keys) t t j i) (λ j. cond (is_live t.valid j) (row_eq (cut keys (row j)) (cut keys (row i))) false) (range_with_len 0 n)
      (λ k d h. let j = get_or (range_with_len 0 n) k d in (λ s. is_live t.valid j && (live s && same_keys keys (row j) (row i) s)) ∙ ask (is_live t.valid j) (row_eq (cut keys (row j)) (cut keys (row i))))
      ∙ sym (filter_filter (λ j. row_eq (cut keys (row j)) (cut keys (row i))) (is_live t.valid) (range_with_len 0 n))
    where
      ask : (a b : Bool) → (a && (true && b)) ≡ cond a b false
      ask true b = refl
      ask false b = refl

  one_aggregate : (aggregate : Aggregate) → IsAggregateOf (length t.columns) aggregate → (i : ℕ) → i < n → is_live t.valid i ≡ true
      → get_or (aggregate_lanes aggregate n n flags t.columns) i 0 ≡ aggregated aggregate (map row (places_alike keys (is_live t.valid) row n i))
  one_aggregate aggregate of i h live =
      let all = range_with_len 0 n in
      let pair = λ (j : ℕ). rows_match (with_themselves keys) t t j i in
      get_or-map-range_with_len (aggregate_word aggregate n n flags t.columns) 0 n i i 0 h (omega arith)
      ∙ ap (words_folded (folded_by aggregate)) (map_agree (λ j. flagged_word aggregate t.columns (get_or flags (table_place n j i) 0) j) (λ j. flagged_word aggregate t.columns (cond (pair j) 1 0) j) all
      (λ k d w. ap (λ flag. flagged_word aggregate t.columns flag (get_or all k d)) (flag_at places (with_themselves keys) t n (get_or all k d) i (range_below n k d w) h)))
      ∙ aggregate_is neutral folds aggregate t.columns words of pair all (omega (arith, length-range_with_len 0 n)) (omega (arith, length-range_with_len 0 n))
      ∙ ap (λ l. aggregated aggregate (map row l)) (alike i live)

  row_is : (i : ℕ) → i < n → is_live t.valid i ≡ true → row_across group_columns i ≡ cut keys (row i) ++ aggregates_of aggregates (map row (places_alike keys (is_live t.valid) row n i))
  row_is i h live =
      let word = λ (column : List ℕ). get_or column i 0 in
      let lanes = λ (aggregate : Aggregate). aggregate_lanes aggregate n n flags t.columns in
      map-append word (map (column_at t.columns) keys) (map lanes aggregates)
      ∙ (λ s. ((map_map word (column_at t.columns) keys ∙ map_agree (λ key. word (column_at t.columns key)) (λ key. word_at key (row i)) keys (λ k d w. word_across t.columns (get_or keys k d) i)) s)
      ++ ((map_map word lanes aggregates ∙ map_agree (λ aggregate. word (lanes aggregate)) (λ aggregate. aggregated aggregate (map row (places_alike keys (is_live t.valid) row n i))) aggregates
      (λ k d w. one_aggregate (get_or aggregates k d) (fits k d w) i h live)) s))

  pub group_made : (valid : List ℕ) → length t.valid ≡ n → length valid ≡ n → ((k : ℕ) → k < n → is_live valid k ≡ is_first (is_live t.valid) (keys_across keys t.columns) k)
      → rows_in group_columns valid ≡ grouped_rows keys aggregates (rows_in t.columns t.valid)
  group_made valid given long each =
      let first = is_first (is_live t.valid) (keys_across keys t.columns) in
      let at = standing first n in
      ap (map (row_across group_columns)) (firsts_live first valid n long each)
      ∙ map_agree (row_across group_columns) (λ i. cut keys (row i) ++ aggregates_of aggregates (map row (places_alike keys (is_live t.valid) row n i))) at
      (λ k d h. row_is (get_or at k d) (All-filter first (λ i. i < n) (range_with_len 0 n) (range_below n) k d h) (stands (get_or at k d) (filter_passes first (range_with_len 0 n) k d h)))
      ∙ sym (group keys aggregates (is_live t.valid) row n)
      ∙ ap (λ m. grouped_rows keys aggregates (map row (standing (is_live t.valid) m))) (sym given)
    where
      stands : (i : ℕ) → is_first (is_live t.valid) (keys_across keys t.columns) i ≡ true → is_live t.valid i ≡ true
      stands i first = by (is_live t.valid i) _ first
        where
          by : (a b : Bool) → cond a b false ≡ true → a ≡ true
          by true b h = refl
          by false b h = h
