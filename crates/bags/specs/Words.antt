-- Lists of words as bags, and how they go with bags of rows.
use Rattle.std.specs.Prelude.{◌≡◌, ℕ, ◌↔◌, List, ◌++◌, map, length, nat_eq}
use Rattle.std.specs.List.{Contains, IsDistinct, fold}
use Rattle.std.specs.List.Sorted.{IsPermutation}
use Rattle.bags.specs.Bag.{SameBag, SameBagBy}

-- two lists of words are the same bag
abbrev pub SameWords : List ℕ → List ℕ → Type 0
SameWords xs ys = SameBagBy nat_eq xs ys

-- words as bags: an equivalence, which is the same as being a permutation, and goes through appending
pub record WordsAreBags : Type 0 where
  pub itself : (xs : List ℕ) → SameWords xs xs
  pub back : (xs ys : List ℕ) → SameWords xs ys → SameWords ys xs
  pub along : (xs ys zs : List ℕ) → SameWords xs ys → SameWords ys zs → SameWords xs zs
  pub permutations : (xs ys : List ℕ) → SameWords xs ys ↔ IsPermutation xs ys
  pub lengths : (xs ys : List ℕ) → SameWords xs ys → length xs ≡ length ys
  pub both : (xs ys us vs : List ℕ) → SameWords xs ys → SameWords us vs → SameWords (xs ++ us) (ys ++ vs)

-- two lists of words without repeats and with the same words are the same bag
abbrev pub WordsOfSameMembers : Type 0
WordsOfSameMembers = (xs ys : List ℕ) → IsDistinct nat_eq xs → IsDistinct nat_eq ys → ((word : ℕ) → Contains xs word ↔ Contains ys word) → SameWords xs ys

-- a fold of words by an operation that is associative and commutative
abbrev pub FoldOfWords : Type 0
FoldOfWords = (op : ℕ → ℕ → ℕ) → ((x y z : ℕ) → op (op x y) z ≡ op x (op y z)) → ((x y : ℕ) → op x y ≡ op y x)
    → (xs ys : List ℕ) → SameWords xs ys → (start : ℕ) → fold op start xs ≡ fold op start ys

-- a word for each row of a bag, a row and a word for each word of a bag
pub record WordsOfRows : Type 0 where
  pub column : (f : List ℕ → ℕ) (xs ys : List (List ℕ)) → SameBag xs ys → SameWords (map f xs) (map f ys)
  pub rows : (f : ℕ → List ℕ) (xs ys : List ℕ) → SameWords xs ys → SameBag (map f xs) (map f ys)
  pub words : (f : ℕ → ℕ) (xs ys : List ℕ) → SameWords xs ys → SameWords (map f xs) (map f ys)
