-- A group in two steps is the group at once.
use Rattle.std.proofs.Common.{◌≡◌, ℕ, ◌+◌, ◌-◌, ◌^◌, ◌<◌, Bool, true, false, cond, List, [], ◌∷◌, ◌++◌, map, drop, length, get_or, refl, sym, ◌∙◌, ap, subst, arith, add-zero}
use Rattle.std.specs.List.{All, flat_map, range_with_len}
use Rattle.std.specs.Cmp.Lexicographic.{nat_list_eq_equiv}
use Rattle.std.proofs.lemmas.Bool.{or_parts}
use Rattle.std.proofs.lemmas.List.{drop-drop, drop_at, get_or-drop, get_or_append_left, length-append, map-id}
use Rattle.std.proofs.lemmas.List.Elements.{All-map, All-weaker, filter-append}
use Rattle.bags.specs.Bag.{row_eq}
use Rattle.plain_operators.proofs.BagFacts.{map_places}
use Rattle.plain_operators.specs.Columns.{cut, word_at}
use Rattle.plain_operators.specs.declared.aggregate.Aggregate.{Aggregate}
use Rattle.plain_operators.specs.declared.aggregate.Aggregate.TheVariants.{Sum, Count, Least, Greatest}
use Rattle.plain_operators.specs.Operators.{aggregated, aggregates_of, distinct_rows, grouped_row, grouped_rows, key_lists, rows_with}
use Rattle.plain_operators.specs.Regroup.{RegroupOfParts, again, again_from, combined, partial_groups}
use Rattle.plain_operators.proofs.Aggregates.{aggregates_of_append, fold_min_below}
use Rattle.plain_operators.proofs.DistinctRows.{All-distinct_rows, among, distinct_pieces, distinct_single}
use Rattle.plain_operators.proofs.Sizes.{length-cut}
use Rattle.plain_operators.proofs.Lists.{map_agree, map_map, flat_map_same, map-flat_map, All-each, filter_agree_on, filter-map, length-filter-le, range_below}

-- the front of a row, by its length
cut_front : (key words : List ℕ) → cut (range_with_len 0 (length key)) (key ++ words) ≡ key
cut_front key words =
    let places = range_with_len 0 (length key) in
    let agree : All (λ i. word_at i (key ++ words) ≡ word_at i key) places = All-weaker (λ i. i < 0 + length key) (λ i. word_at i (key ++ words) ≡ word_at i key) (λ i below. get_or_append_left key words 0 i (omega arith)) places (range_below 0 (length key)) in
    map_agree (λ i. word_at i (key ++ words)) (λ i. word_at i key) places agree ∙ map_places 0 key

module _ (keys : List ℕ) (aggregates : List Aggregate) where
  -- the keys of a group's row are its front
  keys_of_group : (rows : List (List ℕ)) → All (λ key. length key ≡ length keys) (key_lists keys rows)
  keys_of_group rows = All-distinct_rows (λ key. length key ≡ length keys) (map (cut keys) rows) (All-map (λ key. length key ≡ length keys) (cut keys) rows (All-each (λ row. length (cut keys row) ≡ length keys) (length-cut keys) rows))

  cut_group_row : (rows : List (List ℕ)) (key : List ℕ) → length key ≡ length keys → cut (range_with_len 0 (length keys)) (grouped_row keys aggregates rows key) ≡ key
  cut_group_row rows key long = ap (λ n. cut (range_with_len 0 n) (grouped_row keys aggregates rows key)) (sym long) ∙ cut_front key (aggregates_of aggregates (rows_with keys rows key))

  keys_of_part : (part : List (List ℕ)) → map (cut (range_with_len 0 (length keys))) (grouped_rows keys aggregates part) ≡ key_lists keys part
  keys_of_part part =
      let lists = key_lists keys part in
      let g = grouped_row keys aggregates part in
      let places = range_with_len 0 (length keys) in
      let all : All (λ key. cut places (g key) ≡ key) lists = All-weaker (λ key. length key ≡ length keys) (λ key. cut places (g key) ≡ key) (cut_group_row part) lists (keys_of_group part) in
      map_map (cut places) g lists ∙ map_agree (λ key. cut places (g key)) (λ key. key) lists all ∙ map-id lists

  -- the key lists of the partial groups are those of the rows
  key_lists_again : (parts : List (List (List ℕ))) → key_lists (range_with_len 0 (length keys)) (partial_groups keys aggregates parts) ≡ key_lists keys (flat_map (λ part. part) parts)
  key_lists_again parts =
      let places = range_with_len 0 (length keys) in
      ap distinct_rows (map-flat_map (cut places) (grouped_rows keys aggregates) parts ∙ flat_map_same (λ part. map (cut places) (grouped_rows keys aggregates part)) (key_lists keys) keys_of_part parts)
      ∙ distinct_pieces (map (cut keys)) parts ∙ ap distinct_rows (sym (map-flat_map (cut keys) (λ part. part) parts))

  -- the rows of one key among the groups of a part: its one row, or none
  partial_row : (part : List (List ℕ)) (key : List ℕ) → rows_with (range_with_len 0 (length keys)) (grouped_rows keys aggregates part) key ≡ cond (among (map (cut keys) part) key) (grouped_row keys aggregates part key ∷ []) []
  partial_row part key =
      let places = range_with_len 0 (length keys) in
      let lists = key_lists keys part in
      let g = grouped_row keys aggregates part in
      let p = λ (row : List ℕ). row_eq (cut places row) key in
      let q = λ (other : List ℕ). row_eq other key in
      let all : All (λ other. p (g other) ≡ q other) lists = All-weaker (λ other. length other ≡ length keys) (λ other. p (g other) ≡ q other) (λ other long. ap q (cut_group_row part other long)) lists (keys_of_group part) in
      filter-map p g lists ∙ ap (map g) (filter_agree_on (λ other. p (g other)) q lists all ∙ distinct_single key (map (cut keys) part)) ∙ mapped g (among (map (cut keys) part) key)
    where
      mapped : (g : List ℕ → List ℕ) (b : Bool) → map g (cond b (key ∷ []) []) ≡ cond b (g key ∷ []) []
      mapped g true = refl
      mapped g false = refl

-- a part in which a key doesn't occur has no row of it
rows_with_none : (keys : List ℕ) (rows : List (List ℕ)) (key : List ℕ) → among (map (cut keys) rows) key ≡ false → rows_with keys rows key ≡ []
rows_with_none keys [] key none = refl
rows_with_none keys (row ∷ rows) key none =
    let parts = or_parts (row_eq key (cut keys row)) (among (map (cut keys) rows) key) none in
    rw (nat_list_eq_equiv.symm (cut keys row) key ∙ parts.0) (rows_with_none keys rows key parts.1)

-- an aggregate over no row, and over one that holds an aggregate in a column
again_none : (aggregate : Aggregate) (place : ℕ) → aggregated (again aggregate place) [] ≡ aggregated aggregate []
again_none (Sum column) place = refl
again_none Count place = refl
again_none (Least column) place = refl
again_none (Greatest column) place = refl

again_one : (aggregate : Aggregate) (place : ℕ) (row : List ℕ) (rows : List (List ℕ)) → length rows < 2 ^ 64 → word_at place row ≡ aggregated aggregate rows → aggregated (again aggregate place) (row ∷ []) ≡ aggregated aggregate rows
again_one (Sum column) place row rows few is = rw is (omega arith)
again_one Count place row rows few is = rw is (omega arith)
again_one (Least column) place row rows few is = let below = fold_min_below (2 ^ 64 - 1) (map (word_at column) rows) in rw is (omega arith)
again_one (Greatest column) place row rows few is = rw is (omega arith)

-- both steps combine in the same way, where counts don't pass 2^64
again_combined : (aggregate : Aggregate) (place : ℕ) (xs ys : List (List ℕ)) → length xs + length ys < 2 ^ 64
    → combined (again aggregate place) (aggregated aggregate xs) (aggregated aggregate ys) ≡ combined aggregate (aggregated aggregate xs) (aggregated aggregate ys)
again_combined (Sum column) place xs ys few = refl
again_combined Count place xs ys few = omega arith
again_combined (Least column) place xs ys few = refl
again_combined (Greatest column) place xs ys few = refl

module _ (keys : List ℕ) (aggregates : List Aggregate) (key : List ℕ) where
  -- an aggregate that stands in one column of the groups of each part
  module _ (aggregate : Aggregate) (place : ℕ) (stands : (rows : List (List ℕ)) → word_at place (grouped_row keys aggregates rows key) ≡ aggregated aggregate (rows_with keys rows key)) where
    again_part : (part : List (List ℕ)) → length (rows_with keys part key) < 2 ^ 64
        → aggregated (again aggregate place) (rows_with (range_with_len 0 (length keys)) (grouped_rows keys aggregates part) key) ≡ aggregated aggregate (rows_with keys part key)
    again_part part few = ap (aggregated (again aggregate place)) (partial_row keys aggregates part key) ∙ by (among (map (cut keys) part) key) refl
      where
        by : (b : Bool) → among (map (cut keys) part) key ≡ b → aggregated (again aggregate place) (cond b (grouped_row keys aggregates part key ∷ []) []) ≡ aggregated aggregate (rows_with keys part key)
        by true e = again_one aggregate place (grouped_row keys aggregates part key) (rows_with keys part key) few (stands part)
        by false e = again_none aggregate place ∙ ap (aggregated aggregate) (sym (rows_with_none keys part key e))

    again_parts : (parts : List (List (List ℕ))) → length (rows_with keys (flat_map (λ part. part) parts) key) < 2 ^ 64
        → aggregated (again aggregate place) (rows_with (range_with_len 0 (length keys)) (partial_groups keys aggregates parts) key) ≡ aggregated aggregate (rows_with keys (flat_map (λ part. part) parts) key)
    again_parts [] few = again_none aggregate place
    again_parts (part ∷ parts) few =
        let places = range_with_len 0 (length keys) in
        let p = λ (row : List ℕ). row_eq (cut keys row) key in
        let q = λ (row : List ℕ). row_eq (cut places row) key in
        let rest = flat_map (λ (rows : List (List ℕ)). rows) parts in
        let own = rows_with keys part key in
        let others = rows_with keys rest key in
        let cut_here = filter-append p part rest in
        let total : length own + length others < 2 ^ 64 = subst (λ n. n < 2 ^ 64) (ap length cut_here ∙ length-append own others) few in
        let first = again_part part (omega arith) in
        let later = again_parts parts (omega arith) in
        ap (aggregated (again aggregate place)) (filter-append q (grouped_rows keys aggregates part) (partial_groups keys aggregates parts))
        ∙ aggregates_of_append (again aggregate place) (rows_with places (grouped_rows keys aggregates part) key) (rows_with places (partial_groups keys aggregates parts) key)
        ∙ (λ i. combined (again aggregate place) (first i) (later i)) ∙ again_combined aggregate place own others total
        ∙ sym (aggregates_of_append aggregate own others) ∙ ap (aggregated aggregate) (sym cut_here)

  -- all aggregates that stand from a column on
  again_all : (rest : List Aggregate) (place : ℕ) → ((rows : List (List ℕ)) → drop place (grouped_row keys aggregates rows key) ≡ aggregates_of rest (rows_with keys rows key))
      → (parts : List (List (List ℕ))) → length (rows_with keys (flat_map (λ part. part) parts) key) < 2 ^ 64
      → aggregates_of (again_from place rest) (rows_with (range_with_len 0 (length keys)) (partial_groups keys aggregates parts) key) ≡ aggregates_of rest (rows_with keys (flat_map (λ part. part) parts) key)
  again_all [] place stands parts few = refl
  again_all (aggregate ∷ rest) place stands parts few =
      let here : (rows : List (List ℕ)) → word_at place (grouped_row keys aggregates rows key) ≡ aggregated aggregate (rows_with keys rows key) = λ rows.
      ap (λ n. get_or (grouped_row keys aggregates rows key) n 0) (sym (add-zero place)) ∙ sym (get_or-drop place (grouped_row keys aggregates rows key) 0 0) ∙ ap (λ l. get_or l 0 0) (stands rows) in
      let further : (rows : List (List ℕ)) → drop (place + 1) (grouped_row keys aggregates rows key) ≡ aggregates_of rest (rows_with keys rows key) = λ rows.
      sym (drop-drop 1 place (grouped_row keys aggregates rows key)) ∙ ap (drop 1) (stands rows) in
      let first = again_parts aggregate place here parts few in
      let later = again_all rest (place + 1) further parts few in
      λ i. first i ∷ later i

pub regroup_of_parts : RegroupOfParts
regroup_of_parts keys aggregates parts few =
    let places = range_with_len 0 (length keys) in
    let rows = flat_map (λ (part : List (List ℕ)). part) parts in
    let groups = partial_groups keys aggregates parts in
    let old = grouped_row places (again_from (length keys) aggregates) groups in
    let new = grouped_row keys aggregates rows in
    let one : (key : List ℕ) → length key ≡ length keys → old key ≡ new key = λ key long.
    let p = λ (row : List ℕ). row_eq (cut keys row) key in
    let fewer = length-filter-le p rows in
    let stands : (own : List (List ℕ)) → drop (length keys) (grouped_row keys aggregates own key) ≡ aggregates_of aggregates (rows_with keys own key) = λ own. drop_at key (aggregates_of aggregates (rows_with keys own key)) (length keys) long in
    ap (λ words. key ++ words) (again_all keys aggregates key aggregates (length keys) stands parts (omega arith)) in
    ap (map old) (key_lists_again keys aggregates parts) ∙ map_agree old new (key_lists keys rows) (All-weaker (λ key. length key ≡ length keys) (λ key. old key ≡ new key) one (key_lists keys rows) (keys_of_group keys aggregates rows))
