-- Groups: the same bag gives the same bag of group rows, and rows cut into blocks give one row a block.
use Rattle.std.proofs.Common.{◌≡◌, ℕ, ◌<◌, true, false, not, List, [], ◌∷◌, ◌++◌, map, length, refl, sym, ◌∙◌, ap, subst, arith, true≢false}
use Rattle.std.specs.Prelude.{All, ◌≢◌}
use Rattle.std.specs.List.{AllByRecursion, IsDistinct, filter, flat_map, range_with_len}
use Rattle.std.proofs.lemmas.List.{append-nil, length-map, map-append, map-id}
use Rattle.std.proofs.lemmas.List.Elements.{All-nil, All-append, All-cons, All-head, All-map, All-tail, All-weaker, filter-append}
use Rattle.bags.specs.Bag.{SameBag, row_eq}
use Rattle.plain_operators.specs.Columns.{cut}
use Rattle.plain_operators.specs.declared.aggregate.Aggregate.{Aggregate}
use Rattle.plain_operators.specs.Operators.{aggregates_of, distinct_rows, grouped_row, grouped_rows, key_lists, rows_with, whole_table_rows}
use Rattle.plain_operators.specs.Laws.{AreBlocks, GroupOfBlocks, WholeTableIsGroup, DistinctIsGroup, block_key, block_row}
use Rattle.plain_operators.proofs.Aggregates.{grouped_row-SameBag, aggregates_of-SameBag}
use Rattle.plain_operators.proofs.BagFacts.{BagLaws, bag_along, map_places, row_decides, same_bag}
use Rattle.plain_operators.proofs.DistinctRows.{All-distinct_rows, SameBag-distinct_rows, distinct_front, other_row}
use Rattle.plain_operators.proofs.Lists.{map_same, map_agree, filter_all, filter_none}

pub grouped_rows-SameBag : BagLaws → (keys : List ℕ) (aggregates : List Aggregate) {xs ys : List (List ℕ)} → SameBag xs ys → SameBag (grouped_rows keys aggregates xs) (grouped_rows keys aggregates ys)
grouped_rows-SameBag laws keys aggregates {xs} {ys} h =
    let lists = SameBag-distinct_rows (laws.maps (cut keys) xs ys h) in
    let moved = laws.maps (grouped_row keys aggregates xs) (key_lists keys xs) (key_lists keys ys) lists in
    bag_along moved (same_bag (map_same (grouped_row keys aggregates xs) (grouped_row keys aggregates ys) (grouped_row-SameBag laws keys aggregates h) (key_lists keys ys)))

module _ (keys : List ℕ) (aggregates : List Aggregate) where
  -- one block of rows with one key, in front of rows that don't have it
  module _ (key : List ℕ) (block rest : List (List ℕ)) (alike : All (λ row. cut keys row ≡ key) block) (apart : All (λ row. cut keys row ≢ key) rest) where
    key_lists_front : 0 < length block → key_lists keys (block ++ rest) ≡ key ∷ key_lists keys rest
    key_lists_front some =
        let filled : 0 < length (map (cut keys) block) = subst (λ n. 0 < n) (sym (length-map block (cut keys))) some in
        let P : List ℕ → Type 0 = λ other. not (row_eq other key) ≡ true in
        let apart_too : All (λ row. P (cut keys row)) rest = All-weaker (λ row. cut keys row ≢ key) (λ row. P (cut keys row)) (λ row ne. ap not (other_row (cut keys row) key ne)) rest apart in
        let left = filter_all (λ other. not (row_eq other key)) (key_lists keys rest) (All-distinct_rows P (map (cut keys) rest) (All-map P (cut keys) rest apart_too)) in
        ap distinct_rows (map-append (cut keys) block rest) ∙ distinct_front key (map (cut keys) block) (map (cut keys) rest) (All-map (λ other. other ≡ key) (cut keys) block alike) filled ∙ ap (λ lists. key ∷ lists) left

    rows_with_own : rows_with keys (block ++ rest) key ≡ block
    rows_with_own =
        let p = λ (row : List ℕ). row_eq (cut keys row) key in
        let all : All (λ row. p row ≡ true) block = All-weaker (λ row. cut keys row ≡ key) (λ row. p row ≡ true) (λ row e. (row_decides (cut keys row) key).1 e) block alike in
        let none : All (λ row. p row ≡ false) rest = All-weaker (λ row. cut keys row ≢ key) (λ row. p row ≡ false) (λ row ne. other_row (cut keys row) key ne) rest apart in
        filter-append p block rest ∙ (λ i. filter_all p block all i ++ filter_none p rest none i) ∙ append-nil block

    rows_with_other : (other : List ℕ) → other ≢ key → rows_with keys (block ++ rest) other ≡ rows_with keys rest other
    rows_with_other other ne =
        let p = λ (row : List ℕ). row_eq (cut keys row) other in
        let none : All (λ row. p row ≡ false) block = All-weaker (λ row. cut keys row ≡ key) (λ row. p row ≡ false) (λ row e. other_row (cut keys row) other (λ same. ne (sym same ∙ e))) block alike in
        filter-append p block rest ∙ ap (λ l. l ++ filter p rest) (filter_none p block none)

    grouped_rows_front : 0 < length block → grouped_rows keys aggregates (block ++ rest) ≡ (key ++ aggregates_of aggregates block) ∷ grouped_rows keys aggregates rest
    grouped_rows_front some =
        let old = grouped_row keys aggregates (block ++ rest) in
        let new = grouped_row keys aggregates rest in
        let others : All (λ other. other ≢ key) (key_lists keys rest) = All-distinct_rows (λ other. other ≢ key) (map (cut keys) rest) (All-map (λ other. other ≢ key) (cut keys) rest apart) in
        let agree : All (λ other. old other ≡ new other) (key_lists keys rest) = All-weaker (λ other. other ≢ key) (λ other. old other ≡ new other) (λ other ne. ap (λ rows. other ++ aggregates_of aggregates rows) (rows_with_other other ne)) (key_lists keys rest) others in
        ap (map old) (key_lists_front some) ∙ (λ i. (key ++ aggregates_of aggregates (rows_with_own i)) ∷ map_agree old new (key_lists keys rest) agree i)

  -- no row of blocks whose keys differ from this one has it
  apart_from_blocks : (key : List ℕ) (blocks : List (List (List ℕ))) → All (λ block. All (λ row. cut keys row ≡ block_key keys block) block) blocks
      → AllByRecursion (λ other. row_eq key other ≡ false) (map (block_key keys) blocks) → All (λ row. cut keys row ≢ key) (flat_map (λ block. block) blocks)
  apart_from_blocks key [] alike apart = All-nil (λ row. cut keys row ≢ key)
  apart_from_blocks key (block ∷ blocks) alike apart =
      let Q : List ℕ → Type 0 = λ row. cut keys row ≢ key in
      let A : List (List ℕ) → Type 0 = λ b. All (λ row. cut keys row ≡ block_key keys b) b in
      let ne : (row : List ℕ) → cut keys row ≡ block_key keys block → Q row = λ row e same. true≢false (sym ((row_decides key (block_key keys block)).1 (sym same ∙ e)) ∙ apart.0) in
      All-append Q block (flat_map (λ b. b) blocks) (All-weaker (λ row. cut keys row ≡ block_key keys block) Q ne block (All-head A block blocks alike)) (apart_from_blocks key blocks (All-tail A block blocks alike) apart.1)

  of_blocks : (blocks : List (List (List ℕ))) → All (λ block. 0 < length block) blocks → All (λ block. All (λ row. cut keys row ≡ block_key keys block) block) blocks
      → IsDistinct row_eq (map (block_key keys) blocks) → grouped_rows keys aggregates (flat_map (λ block. block) blocks) ≡ map (block_row keys aggregates) blocks
  unfolding IsDistinct
  of_blocks [] filled alike apart = refl
  of_blocks (block ∷ blocks) filled alike apart =
      let A : List (List ℕ) → Type 0 = λ b. All (λ row. cut keys row ≡ block_key keys b) b in
      let S : List (List ℕ) → Type 0 = λ b. 0 < length b in
      let rest = of_blocks blocks (All-tail S block blocks filled) (All-tail A block blocks alike) apart.1 in
      let none = apart_from_blocks (block_key keys block) blocks (All-tail A block blocks alike) apart.0 in
      grouped_rows_front (block_key keys block) block (flat_map (λ b. b) blocks) (All-head A block blocks alike) none (All-head S block blocks filled) ∙ ap (λ rows. block_row keys aggregates block ∷ rows) rest

pub group_of_blocks : GroupOfBlocks
group_of_blocks keys aggregates blocks h = of_blocks keys aggregates blocks h.filled h.alike h.apart

pub whole_table_is_group : WholeTableIsGroup
unfolding IsDistinct
whole_table_is_group aggregates [] = refl
whole_table_is_group aggregates (row ∷ rows) =
    let block = row ∷ rows in
    let one : AreBlocks [] (block ∷ []) = record {
      filled = All-cons (λ b. 0 < length b) block [] (omega arith) (All-nil (λ b. 0 < length b));
      alike = λ k d below i e under. refl;
      apart = (tt, tt);
    } in
    sym (group_of_blocks [] aggregates (block ∷ []) one) ∙ ap (grouped_rows [] aggregates) (append-nil block)

pub cut_all : (width : ℕ) (row : List ℕ) → length row ≡ width → cut (range_with_len 0 width) row ≡ row
cut_all width row long = ap (λ n. cut (range_with_len 0 n) row) (sym long) ∙ map_places 0 row

pub distinct_is_group : DistinctIsGroup
distinct_is_group width rows wide =
    let columns = range_with_len 0 width in
    let all : All (λ row. cut columns row ≡ row) rows = All-weaker (λ row. length row ≡ width) (λ row. cut columns row ≡ row) (cut_all width) rows wide in
    let lists : key_lists columns rows ≡ distinct_rows rows = ap distinct_rows (map_agree (cut columns) (λ row. row) rows all ∙ map-id rows) in
    sym (map_same (grouped_row columns [] rows) (λ key. key) append-nil (key_lists columns rows) ∙ map-id (key_lists columns rows) ∙ lists)

pub whole_table_rows-SameBag : BagLaws → (aggregates : List Aggregate) {xs ys : List (List ℕ)} → SameBag xs ys → whole_table_rows aggregates xs ≡ whole_table_rows aggregates ys
whole_table_rows-SameBag laws aggregates {xs = []} {ys = []} h = refl
whole_table_rows-SameBag laws aggregates {xs = []} {ys = y ∷ ys} h = absurd (omega (arith, laws.keep.lengths [] (y ∷ ys) h))
whole_table_rows-SameBag laws aggregates {xs = x ∷ xs} {ys = []} h = absurd (omega (arith, laws.keep.lengths (x ∷ xs) [] h))
whole_table_rows-SameBag laws aggregates {xs = x ∷ xs} {ys = y ∷ ys} h = ap (λ row. row ∷ []) (aggregates_of-SameBag laws aggregates h)
