-- The tests and the order of rows are what the general lemmas ask.
use Rattle.std.proofs.Common.{◌≡◌, ℕ, List, nat_eq, map, sym, ◌∙◌, ap}
use Rattle.std.proofs.lemmas.Bool.{eqb-true, eq-eqb}
use Rattle.std.specs.Ordering.{is_eq}
use Rattle.std.specs.Cmp.Lexicographic.{bytes_decides, nat_list_cmp_total, texts_ties}
use Rattle.std.specs.List.Sorted.{IsPermutation, IsSorted, IsSortedByKey}
use Rattle.std.proofs.lemmas.List.{map-id}
use Rattle.std.proofs.lemmas.List.Sorted.{IsPermutation-map}
use Rattle.bags.specs.Bag.{row_eq}
use Rattle.bags.specs.Sorted.{row_cmp, sorted}
use Rattle.bags.proofs.Bags.{IsEqualityTest}
use Rattle.bags.proofs.Permutations.{SameBag-from_permutation}
use Rattle.bags.proofs.Sorting.{IsLinearOrder, Ascends-from_sorted, sorted_by_unique}

pub word_test : IsEqualityTest nat_eq
word_test = record { decides = λ x y. (eqb-true x y, eq-eqb x y) }

pub row_test : IsEqualityTest row_eq
row_test = record { decides = bytes_decides }

pub row_order : IsLinearOrder row_cmp
row_order = record { total = nat_list_cmp_total; ties = λ x y e. (bytes_decides x y).0 (texts_ties x y ∙ ap is_eq e) }

-- what a sort by rows as keys leaves is `sorted` of the rows that were there
pub row_sorted_by_key : {X : Type 0} (row : X → List ℕ) (xs ys : List X) → IsPermutation xs ys → IsSortedByKey row row_cmp ys → map row ys ≡ sorted (map row xs)
row_sorted_by_key row xs ys moved up = sorted_by_unique row_order row_test (SameBag-from_permutation row_eq (map row xs) (map row ys) (IsPermutation-map row xs ys moved)) (Ascends-from_sorted row_cmp row ys up)

pub row_sorted : (xs ys : List (List ℕ)) → IsPermutation xs ys → IsSorted row_cmp ys → ys ≡ sorted xs
row_sorted xs ys moved up = sym (map-id ys) ∙ row_sorted_by_key (λ row. row) xs ys moved up ∙ ap sorted (map-id xs)
