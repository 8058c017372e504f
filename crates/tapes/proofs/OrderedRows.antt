-- Rows and columns under an order.
use Rattle.std.proofs.Common.{◌≡◌, ℕ, ◌<◌, List, [], ◌∷◌, length, get_or, refl, sym, ◌∙◌, ap, subst, arith}
use Rattle.std.specs.List.{Contains}
use Rattle.std.proofs.lemmas.List.{ext_get_or, get_or-map, get_or_default}
use Rattle.std.proofs.lemmas.List.FromFn.{get_or-map-range_with_len, length-map-range_with_len}
use Rattle.bags.specs.Bag.{SameBag}
use Rattle.bags.specs.Words.{WordsOfRows, WordsOfSameMembers}
use Rattle.tapes.specs.Align.{row_at, rows_applied}
use Rattle.tapes.specs.Order.{IsOrder, composed, identity_of, inverse_of, place_of}
use Rattle.tapes.specs.RowLaws.{RowsOfColumns, RowsOfOrders, columns_applied, row_across, rows_across}
use Rattle.tapes.proofs.Aligning.{length-rows_applied, row_at-applied}
use Rattle.tapes.proofs.OrderLemmas.{IsOrder-inverse, distinct, get_or-composed, get_or-identity, inverse_left, inverse_right, length-composed, length-identity, length-inverse, place_of-is, place_of-within}
use Rattle.tapes.proofs.SortedOrders.{identity_distinct}

-- two lists of rows with the same rows
same_rows : (xs ys : List (List ℕ)) → length xs ≡ length ys → ((k : ℕ) → k < length xs → row_at xs k ≡ row_at ys k) → xs ≡ ys
same_rows xs ys e h = ext_get_or [] xs ys e h

pub composed_rows : (a b : List ℕ) (rows : List (List ℕ)) → IsOrder b → length a ≡ length b → rows_applied (composed a b) rows ≡ rows_applied b (rows_applied a rows)
composed_rows a b rows ok e =
    same_rows (rows_applied (composed a b) rows) (rows_applied b (rows_applied a rows))
    (length-rows_applied (composed a b) rows ∙ length-composed a b ∙ sym (length-rows_applied b (rows_applied a rows)))
    (λ k h.
    let both : k < length (composed a b) = omega (arith, length-rows_applied (composed a b) rows) in
    let second : k < length b = omega (arith, length-composed a b) in
    let first : get_or b k 0 < length b = ok.below k second in
    row_at-applied (composed a b) rows k both ∙ ap (row_at rows) (get_or-composed a b k second)
    ∙ sym (row_at-applied b (rows_applied a rows) k second ∙ row_at-applied a rows (get_or b k 0) (omega arith)))

pub identity_rows : (n : ℕ) (rows : List (List ℕ)) → n ≡ length rows → rows_applied (identity_of n) rows ≡ rows
identity_rows n rows e =
    same_rows (rows_applied (identity_of n) rows) rows (length-rows_applied (identity_of n) rows ∙ length-identity n ∙ e)
    (λ k h.
    let within : k < length (identity_of n) = omega (arith, length-rows_applied (identity_of n) rows) in
    row_at-applied (identity_of n) rows k within ∙ ap (row_at rows) (get_or-identity n k (omega (arith, length-identity n))))

back : (o : List ℕ) (rows : List (List ℕ)) → IsOrder o → length o ≡ length rows → rows_applied (inverse_of o) (rows_applied o rows) ≡ rows
back o rows ok e =
    sym (composed_rows o (inverse_of o) rows (IsOrder-inverse o ok) (sym (length-inverse o))) ∙ ap (λ p. rows_applied p rows) (inverse_right o ok) ∙ identity_rows (length o) rows e

forth : (o : List ℕ) (rows : List (List ℕ)) → IsOrder o → length o ≡ length rows → rows_applied o (rows_applied (inverse_of o) rows) ≡ rows
forth o rows ok e =
    sym (composed_rows (inverse_of o) o rows ok (length-inverse o)) ∙ ap (λ p. rows_applied p rows) (inverse_left o ok) ∙ identity_rows (length o) rows e

-- an order has the numbers of the identity
in_identity : (n v : ℕ) → v < n → Contains (identity_of n) v
in_identity n v h = (v, omega (arith, length-identity n), get_or_default (identity_of n) v v 0 (omega (arith, length-identity n)) ∙ get_or-identity n v h)

in_order : (o : List ℕ) (v : ℕ) → IsOrder o → v < length o → Contains o v
in_order o v ok h = (place_of v o, place_of-within o ok v h, get_or_default o (place_of v o) v 0 (place_of-within o ok v h) ∙ place_of-is o ok v h)

below_from : (n v : ℕ) → Contains (identity_of n) v → v < n
below_from n v (k, within, is) =
    let small : k < n = omega (arith, length-identity n) in
    let here : get_or (identity_of n) k v ≡ k = get_or_default (identity_of n) k v 0 within ∙ get_or-identity n k small in
    omega (arith, is)

below_from_order : (o : List ℕ) (v : ℕ) → IsOrder o → Contains o v → v < length o
below_from_order o v ok (k, within, is) =
    let small : get_or o k 0 < length o = ok.below k within in
    let same : get_or o k v ≡ get_or o k 0 = get_or_default o k v 0 within in
    omega (arith, is)

pub bag_of_order : WordsOfSameMembers → WordsOfRows → (o : List ℕ) (rows : List (List ℕ)) → IsOrder o → length o ≡ length rows → SameBag (rows_applied o rows) rows
bag_of_order members words o rows ok e =
    let numbers = members o (identity_of (length o)) (distinct o ok) (identity_distinct (length o))
    (λ v. (λ h. in_identity (length o) v (below_from_order o v ok h), λ h. in_order o v ok (below_from (length o) v h))) in
    subst (SameBag (rows_applied o rows)) (identity_rows (length o) rows e) (words.rows (row_at rows) o (identity_of (length o)) numbers)

pub rows_of_orders : WordsOfSameMembers → WordsOfRows → RowsOfOrders
rows_of_orders members words = record {
  row = row_at-applied;
  count = length-rows_applied;
  bag = bag_of_order members words;
  composed = composed_rows;
  identity = λ rows. identity_rows (length rows) rows refl;
  back = back;
  forth = forth;
}

-- ---- columns

row_of_columns : (o : List ℕ) (columns : List (List ℕ)) (k : ℕ) → k < length o → row_across (columns_applied o columns) k ≡ row_across columns (get_or o k 0)
row_of_columns o [] k h = refl
row_of_columns o (column ∷ columns) k h = λ i. get_or-map (λ p. get_or column p 0) o k 0 0 h i ∷ row_of_columns o columns k h i

rows_of_columns : (o : List ℕ) (columns : List (List ℕ)) → IsOrder o → rows_across (length o) (columns_applied o columns) ≡ rows_applied o (rows_across (length o) columns)
rows_of_columns o columns ok =
    let n = length o in
    let moved = rows_across n (columns_applied o columns) in
    let rows = rows_across n columns in
    same_rows moved (rows_applied o rows) (length-map-range_with_len (row_across (columns_applied o columns)) 0 n ∙ sym (length-rows_applied o rows))
    (λ k h.
    let within : k < n = omega (arith, length-map-range_with_len (row_across (columns_applied o columns)) 0 n) in
    let there : get_or o k 0 < n = ok.below k within in
    get_or-map-range_with_len (row_across (columns_applied o columns)) 0 n k k [] within (omega arith)
    ∙ row_of_columns o columns k within
    ∙ sym (row_at-applied o rows k within ∙ get_or-map-range_with_len (row_across columns) 0 n (get_or o k 0) (get_or o k 0) [] there (omega arith)))

pub columns_of_orders : WordsOfSameMembers → WordsOfRows → RowsOfColumns
columns_of_orders members words = record {
  row = row_of_columns;
  rows = rows_of_columns;
  bag = λ o columns ok.
      let rows = rows_across (length o) columns in
      subst (λ (moved : List (List ℕ)). SameBag moved rows) (sym (rows_of_columns o columns ok))
      (bag_of_order members words o rows ok (sym (length-map-range_with_len (row_across columns) 0 (length o))));
}
