-- Folds of words by an operation, from a start or from the first word on.
use Rattle.std.specs.Prelude.{◌≡◌, ◌<◌, ℕ, List, [], ◌∷◌, ◌++◌, length, slice_index}
use Rattle.std.specs.List.{fold}
use Rattle.lanes.specs.Lanes.{lanewise}

-- the fold of words, from the first on
abbrev pub words_folded : (ℕ → ℕ → ℕ) → List ℕ → ℕ
words_folded op [] = 0
words_folded op (x ∷ xs) = fold op x xs

-- the operands of an operation may be regrouped
abbrev pub Associates : (ℕ → ℕ → ℕ) → Type 0
Associates op = (x y z : ℕ) → op (op x y) z ≡ op x (op y z)

-- and exchanged
abbrev pub Commutes : (ℕ → ℕ → ℕ) → Type 0
Commutes op = (x y : ℕ) → op x y ≡ op y x

-- from a start that leaves the first word as it is, a fold is the one from the first word
abbrev pub FoldFromFirst : Type 0
FoldFromFirst = (op : ℕ → ℕ → ℕ) (start : ℕ) (xs : List ℕ) → 0 < length xs → op start (slice_index xs 0) ≡ slice_index xs 0 → fold op start xs ≡ words_folded op xs

-- two lists zipped by the operation fold to the two folds, by the operation
pub record FoldOfZipped : Type 0 where
  pub started : (op : ℕ → ℕ → ℕ) → Associates op → Commutes op → (a b : ℕ) (xs ys : List ℕ) → length xs ≡ length ys
      → fold op (op a b) (lanewise op xs ys) ≡ op (fold op a xs) (fold op b ys)
  pub from_first : (op : ℕ → ℕ → ℕ) → Associates op → Commutes op → (xs ys : List ℕ) → length xs ≡ length ys → 0 < length xs
      → words_folded op (lanewise op xs ys) ≡ op (words_folded op xs) (words_folded op ys)

-- lists one behind the other fold to the two folds, by the operation
abbrev pub FoldOfAppended : Type 0
FoldOfAppended = (op : ℕ → ℕ → ℕ) → Associates op → (xs ys : List ℕ) → 0 < length xs → 0 < length ys
    → words_folded op (xs ++ ys) ≡ op (words_folded op xs) (words_folded op ys)
