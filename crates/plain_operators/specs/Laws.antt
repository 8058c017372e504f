-- What holds of the operators on all rows, each law as one statement.
use Rattle.std.specs.Prelude.{◌≡◌, ℕ, ◌<◌, Bool, List, [], ◌++◌, length, map, slice_index_or}
use Rattle.std.specs.List.{All, IsDistinct, flat_map, range_with_len}
use Rattle.bags.specs.Bag.{SameBag, row_eq}
use Rattle.plain_operators.specs.Columns.{cut}
use Rattle.plain_operators.specs.declared.aggregate.Aggregate.{Aggregate}
use Rattle.plain_operators.specs.Operators.{aggregates_of, distinct_rows, grouped_rows, joined_rows, kept_rows, rows_of_items, whole_table_rows}

-- each operator gives the same bag for the same bags
pub record OperatorsKeepBags : Type 0 where
  pub kept : (tests : List (List ℕ → Bool)) (xs ys : List (List ℕ)) → SameBag xs ys → SameBag (kept_rows tests xs) (kept_rows tests ys)
  pub items : (items : List (List ℕ → ℕ)) (xs ys : List (List ℕ)) → SameBag xs ys → SameBag (rows_of_items items xs) (rows_of_items items ys)
  pub joined : (keys : List (ℕ × ℕ)) (xs ys us vs : List (List ℕ)) → SameBag xs ys → SameBag us vs → SameBag (joined_rows keys xs us) (joined_rows keys ys vs)
  pub distinct : (xs ys : List (List ℕ)) → SameBag xs ys → SameBag (distinct_rows xs) (distinct_rows ys)
  pub grouped : (keys : List ℕ) (aggregates : List Aggregate) (xs ys : List (List ℕ)) → SameBag xs ys → SameBag (grouped_rows keys aggregates xs) (grouped_rows keys aggregates ys)
  pub whole : (aggregates : List Aggregate) (xs ys : List (List ℕ)) → SameBag xs ys → whole_table_rows aggregates xs ≡ whole_table_rows aggregates ys

-- filter, select and join of appended lists; on the right of a join up to the bag
pub record OperatorsOfAppend : Type 0 where
  pub kept : (tests : List (List ℕ → Bool)) (xs ys : List (List ℕ)) → kept_rows tests (xs ++ ys) ≡ kept_rows tests xs ++ kept_rows tests ys
  pub items : (items : List (List ℕ → ℕ)) (xs ys : List (List ℕ)) → rows_of_items items (xs ++ ys) ≡ rows_of_items items xs ++ rows_of_items items ys
  pub left : (keys : List (ℕ × ℕ)) (xs ys rights : List (List ℕ)) → joined_rows keys (xs ++ ys) rights ≡ joined_rows keys xs rights ++ joined_rows keys ys rights
  pub right : (keys : List (ℕ × ℕ)) (lefts xs ys : List (List ℕ)) → SameBag (joined_rows keys lefts (xs ++ ys)) (joined_rows keys lefts xs ++ joined_rows keys lefts ys)

-- the keys of a block: those of its first row
abbrev pub block_key : List ℕ → List (List ℕ) → List ℕ
block_key keys block = cut keys (slice_index_or block 0 [])

-- blocks that aren't empty, with equal keys within a block and different keys between blocks
pub record AreBlocks (keys : List ℕ) (blocks : List (List (List ℕ))) : Type 0 where
  pub filled : All (λ block. 0 < length block) blocks
  pub alike : All (λ block. All (λ row. cut keys row ≡ block_key keys block) block) blocks
  pub apart : IsDistinct row_eq (map (block_key keys) blocks)

-- the row of a block: its keys, then each aggregate over its rows
abbrev pub block_row : List ℕ → List Aggregate → List (List ℕ) → List ℕ
block_row keys aggregates block = block_key keys block ++ aggregates_of aggregates block

-- rows cut into blocks have as their group one row for each block
abbrev pub GroupOfBlocks : Type 0
GroupOfBlocks = (keys : List ℕ) (aggregates : List Aggregate) (blocks : List (List (List ℕ))) → AreBlocks keys blocks
    → grouped_rows keys aggregates (flat_map (λ block. block) blocks) ≡ map (block_row keys aggregates) blocks

-- a group without keys is the group by no column
abbrev pub WholeTableIsGroup : Type 0
WholeTableIsGroup = (aggregates : List Aggregate) (rows : List (List ℕ)) → whole_table_rows aggregates rows ≡ grouped_rows [] aggregates rows

-- distinct rows are the group by all columns without aggregates
abbrev pub DistinctIsGroup : Type 0
DistinctIsGroup = (width : ℕ) (rows : List (List ℕ)) → All (λ row. length row ≡ width) rows → distinct_rows rows ≡ grouped_rows (range_with_len 0 width) [] rows
