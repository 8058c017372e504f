-- How often an element occurs in a list, and lists that are the same bag.
use Rattle.std.specs.Prelude.{◌≡◌, ℕ, ◌+◌, Bool, if◌then◌else◌, List, [], ◌∷◌, nat_eq}
use Rattle.std.specs.Cmp.Lexicographic.{pointwise}

-- how often x occurs in a list, by an equality test
abbrev pub occurrences : {X : Type 0} → (X → X → Bool) → X → List X → ℕ
occurrences eq x [] = 0
occurrences eq x (y ∷ ys) = (if eq x y then 1 else 0) + occurrences eq x ys

-- two lists are the same bag: each element occurs equally often in both
pub record SameBagBy {X : Type 0} (eq : X → X → Bool) (xs ys : List X) : Type 0 where
  pub counts : (x : X) → occurrences eq x xs ≡ occurrences eq x ys

-- two rows are equal: as many words, and each pair of words equal
abbrev pub row_eq : List ℕ → List ℕ → Bool
row_eq = pointwise nat_eq

-- how often a row occurs in a list of rows
abbrev pub count_of : List ℕ → List (List ℕ) → ℕ
count_of row rows = occurrences row_eq row rows

-- two lists of rows are the same bag
abbrev pub SameBag : List (List ℕ) → List (List ℕ) → Type 0
SameBag xs ys = SameBagBy row_eq xs ys
