-- The order of rows, and a list of rows in that order.
use Rattle.std.specs.Prelude.{ℕ, if◌then◌else◌, List, [], ◌∷◌}
use Rattle.std.specs.declared.cmp.Ordering.{Ordering}
use Rattle.std.specs.Ordering.{is_lt, nat_cmp}
use Rattle.std.specs.Cmp.Lexicographic.{slice_cmp}

-- x before the first element that isn't below it
abbrev pub insert_by : {X : Type 0} → (X → X → Ordering) → X → List X → List X
insert_by cmp x [] = x ∷ []
insert_by cmp x (y ∷ ys) = if is_lt (cmp y x) then y ∷ insert_by cmp x ys else x ∷ y ∷ ys

-- the elements in order
abbrev pub sorted_by : {X : Type 0} → (X → X → Ordering) → List X → List X
sorted_by cmp [] = []
sorted_by cmp (x ∷ xs) = insert_by cmp x (sorted_by cmp xs)

-- the order of rows: the first two words that differ decide, and else the lengths
abbrev pub row_cmp : List ℕ → List ℕ → Ordering
row_cmp = slice_cmp nat_cmp

-- the rows in order
abbrev pub sorted : List (List ℕ) → List (List ℕ)
sorted rows = sorted_by row_cmp rows
