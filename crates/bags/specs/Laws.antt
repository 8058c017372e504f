-- What holds of every list of rows, each law as one statement.
use Rattle.std.specs.Prelude.{◌≡◌, ℕ, Bool, true, ◌↔◌, List, ◌++◌, map, length}
use Rattle.std.specs.List.{All, AllZip, Contains, IsDistinct, filter, flat_map, fold, slice_index_or, range_with_len}
use Rattle.std.specs.List.Sorted.{IsPermutation, IsSorted}
use Rattle.bags.specs.Bag.{SameBag, row_eq}
use Rattle.bags.specs.Sorted.{row_cmp, sorted}

-- being the same bag is an equivalence
pub record BagsAreEquivalence : Type 0 where
  pub itself : (xs : List (List ℕ)) → SameBag xs xs
  pub back : (xs ys : List (List ℕ)) → SameBag xs ys → SameBag ys xs
  pub along : (xs ys zs : List (List ℕ)) → SameBag xs ys → SameBag ys zs → SameBag xs zs

-- the same bag is the same rows in some order
abbrev pub BagsArePermutations : Type 0
BagsArePermutations = (xs ys : List (List ℕ)) → SameBag xs ys ↔ IsPermutation xs ys

-- the same bag has the same length, and what holds of each row of the one holds of each row of the other
pub record BagsKeepRows : Type 0 where
  pub lengths : (xs ys : List (List ℕ)) → SameBag xs ys → length xs ≡ length ys
  pub tests : (p : List ℕ → Bool) (xs ys : List (List ℕ)) → SameBag xs ys → All (λ row. p row ≡ true) xs → All (λ row. p row ≡ true) ys

-- bags through appending, also with the two the other way round, or one part left out
pub record BagsOfAppend : Type 0 where
  pub both : (xs ys us vs : List (List ℕ)) → SameBag xs ys → SameBag us vs → SameBag (xs ++ us) (ys ++ vs)
  pub swapped : (xs ys : List (List ℕ)) → SameBag (xs ++ ys) (ys ++ xs)
  pub cancelled : (xs ys zs : List (List ℕ)) → SameBag (xs ++ ys) (xs ++ zs) → SameBag ys zs

-- bags through any function of rows
abbrev pub BagsOfMap : Type 0
BagsOfMap = (f : List ℕ → List ℕ) (xs ys : List (List ℕ)) → SameBag xs ys → SameBag (map f xs) (map f ys)

-- bags through any test of rows
abbrev pub BagsOfFilter : Type 0
BagsOfFilter = (p : List ℕ → Bool) (xs ys : List (List ℕ)) → SameBag xs ys → SameBag (filter p xs) (filter p ys)

-- bags through functions that give the same bag of rows for each row
abbrev pub BagsOfFlatMap : Type 0
BagsOfFlatMap = (f g : List ℕ → List (List ℕ)) (xs ys : List (List ℕ)) → ((row : List ℕ) → SameBag (f row) (g row)) → SameBag xs ys → SameBag (flat_map f xs) (flat_map g ys)

-- where f gives the same bag for rows with one image under h, the bag of the images decides
abbrev pub BagsOfImages : Type 0
BagsOfImages = (h : List ℕ → List ℕ) (f : List ℕ → List (List ℕ)) (xs ys : List (List ℕ)) → ((a b : List ℕ) → h a ≡ h b → SameBag (f a) (f b)) → SameBag (map h xs) (map h ys) → SameBag (flat_map f xs) (flat_map f ys)

-- lists appended one after the other: the same bags in the same places, or the same lists in any order
pub record BagsOfConcat : Type 0 where
  pub each : (xss yss : List (List (List ℕ))) → AllZip SameBag xss yss → SameBag (flat_map (λ xs. xs) xss) (flat_map (λ ys. ys) yss)
  pub reordered : (xss yss : List (List (List ℕ))) → IsPermutation xss yss → SameBag (flat_map (λ xs. xs) xss) (flat_map (λ ys. ys) yss)

-- the rows at all places, in any order of the places
abbrev pub BagsOfPlaces : Type 0
BagsOfPlaces = (rows : List (List ℕ)) (row : List ℕ) (places : List ℕ) → IsPermutation (range_with_len 0 (length rows)) places → SameBag (map (λ i. slice_index_or rows i row) places) rows

-- a fold by an operation that is associative and commutative
abbrev pub BagsOfFold : Type 0
BagsOfFold = (op : List ℕ → List ℕ → List ℕ) → ((x y z : List ℕ) → op (op x y) z ≡ op x (op y z)) → ((x y : List ℕ) → op x y ≡ op y x)
    → (xs ys : List (List ℕ)) → SameBag xs ys → (start : List ℕ) → fold op start xs ≡ fold op start ys

-- two lists without repeats and with the same rows are the same bag
abbrev pub BagsOfSameMembers : Type 0
BagsOfSameMembers = (xs ys : List (List ℕ)) → IsDistinct row_eq xs → IsDistinct row_eq ys → ((row : List ℕ) → Contains xs row ↔ Contains ys row) → SameBag xs ys

-- where g undoes f on both lists, equal bags of images are equal bags
abbrev pub BagsOfInjectiveMap : Type 0
BagsOfInjectiveMap = (f g : List ℕ → List ℕ) (xs ys : List (List ℕ)) → All (λ row. g (f row) ≡ row) xs → All (λ row. g (f row) ≡ row) ys → SameBag (map f xs) (map f ys) → SameBag xs ys

-- `sorted` puts the rows in order and keeps their bag
pub record SortedIsInOrder : Type 0 where
  pub in_order : (rows : List (List ℕ)) → IsSorted row_cmp (sorted rows)
  pub same_bag : (rows : List (List ℕ)) → SameBag (sorted rows) rows

-- a list in order that is a permutation of the rows is `sorted` of them
abbrev pub SortedIsUnique : Type 0
SortedIsUnique = (xs ys : List (List ℕ)) → IsPermutation xs ys → IsSorted row_cmp ys → ys ≡ sorted xs

-- the sorted lists are equal exactly where the bags are
abbrev pub SortedTellsBags : Type 0
SortedTellsBags = (xs ys : List (List ℕ)) → SameBag xs ys ↔ (sorted xs ≡ sorted ys)
