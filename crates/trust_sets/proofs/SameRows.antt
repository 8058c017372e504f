-- Rows that are compared one by one, or after sorting.
use Rattle.std.proofs.Common.{◌≡◌, ℕ, ◌+◌, ◌<◌, ◌≤◌, Bool, Bor, List, [], ◌∷◌, ◌++◌, Some, map, length, take, refl, sym, ap, ◌∙◌, arith}
use Rattle.std.specs.Prelude.{◌&&◌, ◌↔◌, IsTrue, slice_get}
use Rattle.std.specs.Cmp.Lexicographic.{bytes_decides, pointwise}
use Rattle.std.proofs.lemmas.List.{length-map, take_all, take_more, take_more_same}
use Rattle.std.proofs.lemmas.Option.{get_or_from_slice_get, same_Some, slice_get-map, slice_get_within}
use Rattle.std.proofs.lemmas.Slice.Eq.{slice_eq-Decides}
use Rattle.std.specs.Option.{option_map}
use Rattle.tables.specs.Content as table
use Rattle.plain_meaning.specs.Plain.{rows_of_tables}
use Rattle.bags.specs.Bag.{SameBag, row_eq}
use Rattle.bags.specs.Laws.{SortedTellsBags}
use Rattle.bags.specs.Sorted.{sorted}

module _ (xs ys : List (List ℕ)) where
  -- the rows in one place differ
  pub row_differs : (index : ℕ) (x y : List ℕ) → slice_get xs index ≡ Some x → slice_get ys index ≡ Some y → (x ≡ y → ⊥) → xs ≡ ys → ⊥
  row_differs index x y at_x at_y differ same = differ (same_Some x y (sym at_x ∙ ap (λ l. slice_get l index) same ∙ at_y))

  -- one more row is the same
  pub same_more : (index : ℕ) (x y : List ℕ) → take index xs ≡ take index ys → slice_get xs index ≡ Some x → slice_get ys index ≡ Some y → x ≡ y → take (index + 1) xs ≡ take (index + 1) ys
  same_more index x y same at_x at_y here = take_more_same xs ys index [] (slice_get_within xs index x at_x) (slice_get_within ys index y at_y) same
      (get_or_from_slice_get xs index x [] at_x ∙ here ∙ sym (get_or_from_slice_get ys index y [] at_y))

  pub same_all : (index : ℕ) → length xs ≡ length ys → length xs ≤ index → take index xs ≡ take index ys → xs ≡ ys
  same_all index long past same = let past_too : length ys ≤ index = omega arith in sym (take_all index xs past) ∙ same ∙ take_all index ys past_too

-- one more row of a table
pub take_row : (rows : List (List ℕ)) (index : ℕ) (row : List ℕ) → slice_get rows index ≡ Some row → take (index + 1) rows ≡ take index rows ++ row ∷ []
take_row rows index row at = take_more rows index [] (slice_get_within rows index row at) ∙ ap (λ r. take index rows ++ r ∷ []) (get_or_from_slice_get rows index row [] at)

-- the rows of a file that is lent
pub file_rows : (files : List table.Content) (file : ℕ) (lent : table.Content) → slice_get files file ≡ Some lent → slice_get (rows_of_tables files) file ≡ Some lent.rows
file_rows files file lent at = slice_get-map (λ (t : table.Content). t.rows) files file ∙ ap (option_map (λ (t : table.Content). t.rows)) at

pub file_within : (files : List table.Content) (file : ℕ) → file < length (rows_of_tables files) → file < length files
file_within files file within = rw (sym (length-map files (λ (t : table.Content). t.rows))) within

-- lent rows are compared by their words
same_lent : (xs ys : List (Bor (List ℕ))) → pointwise (λ a b. row_eq a.now b.now) xs ys ≡ pointwise row_eq (map (λ row. row.now) xs) (map (λ row. row.now) ys)
same_lent [] [] = refl
same_lent [] (y ∷ ys) = refl
same_lent (x ∷ xs) [] = refl
same_lent (x ∷ xs) (y ∷ ys) = ap (λ b. row_eq x.now y.now && b) (same_lent xs ys)

-- sorted lists are the same where the bags are
pub same_sorted : SortedTellsBags → (xs ys us vs : List (Bor (List ℕ))) (result : Bool) → map (λ row. row.now) us ≡ sorted (map (λ row. row.now) xs) → map (λ row. row.now) vs ≡ sorted (map (λ row. row.now) ys)
    → result ≡ pointwise (λ a b. row_eq a.now b.now) us vs → IsTrue result ↔ SameBag (map (λ row. row.now) xs) (map (λ row. row.now) ys)
same_sorted tells xs ys us vs result left right is =
    let decides = slice_eq-Decides bytes_decides (map (λ row. row.now) us) (map (λ row. row.now) vs) result (is ∙ same_lent us vs) in
    let sorts = tells (map (λ row. row.now) xs) (map (λ row. row.now) ys) in
    (λ same. sorts.1 (sym left ∙ decides.0 same ∙ right), λ bag. decides.1 (left ∙ sorts.0 bag ∙ sym right))
