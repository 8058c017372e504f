-- Operators on rows of which only some columns are looked at: what a party that knows these columns can tell.
use Rattle.std.specs.Prelude.{◌≡◌, ℕ, Bool, List, ◌++◌, length, map}
use Rattle.std.specs.List.{All}
use Rattle.bags.specs.Bag.{SameBag}
use Rattle.plain_operators.specs.Columns.{cut, word_at}
use Rattle.plain_operators.specs.declared.aggregate.Aggregate.{Aggregate}
use Rattle.plain_operators.specs.declared.aggregate.Aggregate.TheVariants.{Sum, Count, Least, Greatest}
use Rattle.plain_operators.specs.Operators.{aggregated, aggregates_of, distinct_rows, grouped_rows, joined_row, joined_rows, kept_rows, left_keys, right_keys, rows_of_items}
use Rattle.plain_operators.specs.Sizes.{AllWide}

-- a function of rows of one width gives the same for rows with the same words in these columns
abbrev pub DependsOn : {X : Type 0} → ℕ → List ℕ → (List ℕ → X) → Type 0
DependsOn width columns f = (a b : List ℕ) → length a ≡ width → length b ≡ width → cut columns a ≡ cut columns b → f a ≡ f b

-- two lists of rows of one width have the same bag when cut to these columns
pub record SameCut (width : ℕ) (columns : List ℕ) (xs ys : List (List ℕ)) : Type 0 where
  pub wide : AllWide width xs
  pub wide_too : AllWide width ys
  pub bag : SameBag (map (cut columns) xs) (map (cut columns) ys)

-- the rows of both, cut to these columns, are the same bag
abbrev pub CutsAgree : List ℕ → List (List ℕ) → List (List ℕ) → Type 0
CutsAgree columns xs ys = SameBag (map (cut columns) xs) (map (cut columns) ys)

-- the wanted columns of a joined row depend on these columns of the left and of the right row
abbrev pub JoinDependsOn : List (ℕ × ℕ) → ℕ → ℕ → List ℕ → List ℕ → List ℕ → Type 0
JoinDependsOn keys left_width right_width left right wanted = (a b u v : List ℕ) → length a ≡ left_width → length b ≡ left_width → length u ≡ right_width → length v ≡ right_width
    → cut left a ≡ cut left b → cut right u ≡ cut right v → cut wanted (joined_row keys a u) ≡ cut wanted (joined_row keys b v)

-- the wanted columns of a group's row, behind so many keys, depend on the bag of these columns of its rows
abbrev pub GroupDependsOn : ℕ → List Aggregate → ℕ → List ℕ → List ℕ → Type 0
GroupDependsOn keys aggregates width columns wanted = (key : List ℕ) (xs ys : List (List ℕ)) → length key ≡ keys → SameCut width columns xs ys
    → cut wanted (key ++ aggregates_of aggregates xs) ≡ cut wanted (key ++ aggregates_of aggregates ys)

-- an aggregate of a column that depends on some columns is the same for the same bag of those, and so is a count
pub record AggregatesOfCuts : Type 0 where
  pub counts : (width : ℕ) (columns : List ℕ) (xs ys : List (List ℕ)) → SameCut width columns xs ys → aggregated Count xs ≡ aggregated Count ys
  pub words : (width : ℕ) (columns : List ℕ) (column : ℕ) (xs ys : List (List ℕ)) → DependsOn width columns (word_at column) → SameCut width columns xs ys
      → (aggregated (Sum column) xs ≡ aggregated (Sum column) ys) × (aggregated (Least column) xs ≡ aggregated (Least column) ys) × (aggregated (Greatest column) xs ≡ aggregated (Greatest column) ys)

-- each operator whose tests, keys and wanted columns depend on some columns gives the same bag of wanted columns for the same bags of those columns
pub record OperatorsOfCuts : Type 0 where
  -- without an operator: columns that depend on those
  pub fewer : (width : ℕ) (columns wanted : List ℕ) (xs ys : List (List ℕ)) → DependsOn width columns (cut wanted) → SameCut width columns xs ys → CutsAgree wanted xs ys
  pub kept : (width : ℕ) (columns : List ℕ) (tests : List (List ℕ → Bool)) (xs ys : List (List ℕ)) → All (DependsOn width columns) tests → SameCut width columns xs ys → CutsAgree columns (kept_rows tests xs) (kept_rows tests ys)
  pub items : (width : ℕ) (columns wanted : List ℕ) (items : List (List ℕ → ℕ)) (xs ys : List (List ℕ)) → DependsOn width columns (λ row. cut wanted (map (λ item. item row) items)) → SameCut width columns xs ys → CutsAgree wanted (rows_of_items items xs) (rows_of_items items ys)
  pub joined : (keys : List (ℕ × ℕ)) (left_width right_width : ℕ) (left right wanted : List ℕ) (xs ys us vs : List (List ℕ))
      → DependsOn left_width left (cut (left_keys keys)) → DependsOn right_width right (cut (right_keys keys)) → JoinDependsOn keys left_width right_width left right wanted
      → SameCut left_width left xs ys → SameCut right_width right us vs → CutsAgree wanted (joined_rows keys xs us) (joined_rows keys ys vs)
  pub distinct : (width : ℕ) (columns : List ℕ) (xs ys : List (List ℕ)) → DependsOn width columns (λ row. row) → SameCut width columns xs ys → SameBag (distinct_rows xs) (distinct_rows ys)
  pub grouped : (keys : List ℕ) (aggregates : List Aggregate) (width : ℕ) (columns wanted : List ℕ) (xs ys : List (List ℕ)) → DependsOn width columns (cut keys) → GroupDependsOn (length keys) aggregates width columns wanted
      → SameCut width columns xs ys → CutsAgree wanted (grouped_rows keys aggregates xs) (grouped_rows keys aggregates ys)
