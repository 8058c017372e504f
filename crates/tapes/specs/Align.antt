-- The order that takes one list of rows to another one.
use Rattle.std.specs.Prelude.{◌≡◌, ℕ, Vec, ◌<◌, suc, List, [], ◌∷◌, length, take, map, slice_index, slice_index_or}
use Rattle.std.specs.Global.{Global}
use Rattle.bags.specs.Bag.{count_of}
use Rattle.bags.specs.Sorted.{sorted}
use Rattle.tapes.specs.Order.{IsOrder}

-- the row at a place, empty where there is none
abbrev pub row_at : List (List ℕ) → ℕ → List ℕ
row_at rows k = slice_index_or rows k []

-- how often the row at a place stands before it
abbrev pub occurrence : List (List ℕ) → ℕ → ℕ
occurrence rows k = count_of (row_at rows k) (take k rows)

-- rows applied: at i stands the row that stood at the order's i-th number
abbrev pub rows_applied : List ℕ → List (List ℕ) → List (List ℕ)
rows_applied o rows = map (λ p. row_at rows p) o

-- applied to the source the order gives the target, and it takes the j-th occurrence of each row,
-- counted from the front, to its j-th occurrence
pub record Aligns (source target : List (List ℕ)) (o : List ℕ) : Type 0 where
  pub order : IsOrder o
  pub source_long : length o ≡ length source
  pub target_long : length o ≡ length target
  pub row : (k : ℕ) → k < length target → row_at target k ≡ row_at source (slice_index o k)
  pub same_occurrence : (k : ℕ) → k < length target → occurrence target k ≡ occurrence source (slice_index o k)

-- the places of rows, sorted by their rows and where rows are equal by themselves
pub record SortsPlaces (rows : List (List ℕ)) (o : List ℕ) : Type 0 where
  pub order : IsOrder o
  pub long : length o ≡ length rows
  pub in_order : rows_applied o rows ≡ sorted rows
  pub ranks : (j : ℕ) → j < length o → occurrence rows (slice_index o j) ≡ occurrence (rows_applied o rows) j

-- items that are the rows of a list with their places from a on
abbrev pub Numbered : {X : Type 0} → (X → List ℕ) → (X → ℕ) → ℕ → List (List ℕ) → List X → Type 0
Numbered f g a [] [] = Unit {0}
Numbered f g a [] (x ∷ xs) = ⊥
Numbered f g a (r ∷ rs) [] = ⊥
Numbered f g a (r ∷ rs) (x ∷ xs) = (f x ≡ r) × (g x ≡ a) × Numbered f g (suc a) rs xs
