-- A table with a place for each pair of rows of two tables.
use Rattle.std.proofs.Common.{◌≡◌, ℕ, ◌<◌, Bool, true, false, ◌&&◌, cond, List, [], ◌∷◌, ◌++◌, map, length, get_or, refl, sym, ◌∙◌, ap}
use Rattle.std.specs.List.{All, filter, flat_map, range_with_len}
use Rattle.std.proofs.lemmas.List.Elements.{All-filter, All-head, All-tail, filter-append}
use Rattle.std.proofs.lemmas.List.{map-append}
use Rattle.std.proofs.lemmas.List.Folds.{flat_map-map}
use Rattle.lanes.specs.Table.{PlacesOfTable, table_place}
use Rattle.tapes.specs.RowLaws.{row_across}
use Rattle.padded.specs.Laws.{IsTableOfPairs, RowsOfPairs}
use Rattle.padded.specs.Table.{Table, is_live, live, table_rows}
use Rattle.padded.proofs.Elements.{filter-map, filter_agree_on, filter_filter, map_agree, map_map, range_below}

map-flat_map : {X Y Z : Type 0} (f : Y → Z) (g : X → List Y) (xs : List X) → map f (flat_map g xs) ≡ flat_map (λ x. map f (g x)) xs
map-flat_map f g [] = refl
map-flat_map f g (x ∷ xs) = map-append f (g x) (flat_map g xs) ∙ ap (λ l. map f (g x) ++ l) (map-flat_map f g xs)

filter-flat_map : {X Y : Type 0} (p : Y → Bool) (g : X → List Y) (xs : List X) → filter p (flat_map g xs) ≡ flat_map (λ x. filter p (g x)) xs
filter-flat_map p g [] = refl
filter-flat_map p g (x ∷ xs) = filter-append p (g x) (flat_map g xs) ∙ ap (λ l. filter p (g x) ++ l) (filter-flat_map p g xs)

flat_map_agree : {X Y : Type 0} (f g : X → List Y) (xs : List X) → All (λ x. f x ≡ g x) xs → flat_map f xs ≡ flat_map g xs
flat_map_agree f g [] all = refl
flat_map_agree f g (x ∷ xs) all = λ i. All-head (λ z. f z ≡ g z) x xs all i ++ flat_map_agree f g xs (All-tail (λ z. f z ≡ g z) x xs all) i

-- what is made of the elements that pass alone
flat_map_kept : {X Y : Type 0} (p : X → Bool) (g : X → List Y) (xs : List X) → flat_map (λ x. cond (p x) (g x) []) xs ≡ flat_map g (filter p xs)
flat_map_kept p g [] = refl
flat_map_kept p g (x ∷ xs) = by (p x) (flat_map_kept p g xs)
  where
    by : (b : Bool) → flat_map (λ z. cond (p z) (g z) []) xs ≡ flat_map g (filter p xs) → cond b (g x) [] ++ flat_map (λ z. cond (p z) (g z) []) xs ≡ flat_map g (cond b (x ∷ filter p xs) (filter p xs))
    by true rest = ap (λ l. g x ++ l) rest
    by false rest = rest

none_pass : {X : Type 0} (xs : List X) → filter (λ x. false) xs ≡ []
none_pass [] = refl
none_pass (x ∷ xs) = none_pass xs

-- one test after another is both
filter_both : {X : Type 0} (p q : X → Bool) (xs : List X) → filter (λ x. q x && p x) xs ≡ filter p (filter q xs)
filter_both p q xs = filter_agree_on (λ x. q x && p x) (λ x. cond (q x) (p x) false) xs (λ k d h. both (q (get_or xs k d)) (p (get_or xs k d))) ∙ sym (filter_filter p q xs)
  where
    both : (a b : Bool) → (a && b) ≡ cond a b false
    both true b = refl
    both false b = refl

module _ (matches : List ℕ → List ℕ → Bool) (joined : List ℕ → List ℕ → List ℕ) (lefts rights table : Table) (is : IsTableOfPairs matches joined lefts rights table) where
  abbrev n : ℕ
  n = length lefts.valid

  abbrev m : ℕ
  m = length rights.valid

  abbrev left : ℕ → List ℕ
  left i = row_across lefts.columns i

  abbrev right : ℕ → List ℕ
  right j = row_across rights.columns j

  -- the joined rows of a left row
  abbrev of_left : List ℕ → List (List ℕ)
  of_left row = map (joined row) (filter (matches row) (table_rows rights))

  -- the places of the right that match the row at a place of the left, where a row stands there
  found : (i : ℕ) (b : Bool) → map (joined (left i)) (map right (filter (λ j. b && (is_live rights.valid j && matches (left i) (right j))) (range_with_len 0 m))) ≡ cond b (of_left (left i)) []
  found i true =
      ap (λ js. map (joined (left i)) (map right js)) (filter_both (λ j. matches (left i) (right j)) (is_live rights.valid) (range_with_len 0 m))
      ∙ ap (map (joined (left i))) (sym (filter-map (matches (left i)) right (live rights.valid)))
  found i false = ap (λ js. map (joined (left i)) (map right js)) (none_pass (range_with_len 0 m))

  -- the rows at the places of a left row
  in_row : (i : ℕ) → i < n → map (row_across table.columns) (filter (is_live table.valid) (map (table_place m i) (range_with_len 0 m))) ≡ cond (is_live lefts.valid i) (of_left (left i)) []
  in_row i h =
      let all = range_with_len 0 m in
      let passes = λ (j : ℕ). is_live lefts.valid i && (is_live rights.valid j && matches (left i) (right j)) in
      ap (map (row_across table.columns)) (filter-map (is_live table.valid) (table_place m i) all)
      ∙ map_map (row_across table.columns) (table_place m i) (filter (λ j. is_live table.valid (table_place m i j)) all)
      ∙ ap (map (λ j. row_across table.columns (table_place m i j))) (filter_agree_on (λ j. is_live table.valid (table_place m i j)) passes all (λ k d w. is.live i _ h (range_below m k d w)))
      ∙ map_agree (λ j. row_across table.columns (table_place m i j)) (λ j. joined (left i) (right j)) (filter passes all)
      (λ k d w. is.row i _ h (All-filter passes (λ j. j < m) all (range_below m) k d w))
      ∙ sym (map_map (joined (left i)) right (filter passes all))
      ∙ found i (is_live lefts.valid i)

  pub pairs_rows : PlacesOfTable → table_rows table ≡ flat_map (λ row. map (joined row) (filter (matches row) (table_rows rights))) (table_rows lefts)
  pairs_rows places =
      let rows = range_with_len 0 n in
      let places_in = λ (i : ℕ). map (table_place m i) (range_with_len 0 m) in
      ap (λ ps. map (row_across table.columns) (filter (is_live table.valid) ps)) (ap (range_with_len 0) is.count ∙ sym (places.all n m))
      ∙ ap (map (row_across table.columns)) (filter-flat_map (is_live table.valid) places_in rows)
      ∙ map-flat_map (row_across table.columns) (λ i. filter (is_live table.valid) (places_in i)) rows
      ∙ flat_map_agree (λ i. map (row_across table.columns) (filter (is_live table.valid) (places_in i))) (λ i. cond (is_live lefts.valid i) (of_left (left i)) []) rows (λ k d w. in_row _ (range_below n k d w))
      ∙ flat_map_kept (is_live lefts.valid) (λ i. of_left (left i)) rows
      ∙ sym (flat_map-map of_left left (live lefts.valid))

pub rows_of_pairs : PlacesOfTable → RowsOfPairs
rows_of_pairs places matches joined lefts rights table is = pairs_rows matches joined lefts rights table is places
