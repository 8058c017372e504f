-- The places of a table.
use Rattle.std.proofs.Common.{◌≡◌, ℕ, suc, zero, ◌+◌, ◌*◌, ◌<◌, ◌≤◌, ◌∷◌, ◌++◌, map, refl, sym, ◌∙◌, ap, arith, add-zero, zero-add}
use Rattle.std.specs.List.{flat_map, range_with_len}
use Rattle.std.proofs.Math.Nat.{add-mul, div-lt_iff_lt-mul, mod-lt, mul-le-mul_right, mul-zero, one-mul, zero-mul}
use Rattle.std.proofs.lemmas.Nat.{div-add-mod', div-mul-add, mod-mul-add}
use Rattle.std.proofs.lemmas.List.Concat.{flat_map-cons}
use Rattle.lanes.specs.Table.{PlacesOfTable, table_place}

-- numbers in two parts
range_parts : (a m n : ℕ) → range_with_len a m ++ range_with_len (a + m) n ≡ range_with_len a (m + n)
range_parts a zero n = ap (λ k. range_with_len k n) (add-zero a) ∙ ap (range_with_len a) (sym (zero-add n))
range_parts a (suc m) n =
    let place : a + suc m ≡ a + 1 + m = omega arith in
    let count : suc m + n ≡ suc (m + n) = omega arith in
    ap (λ k. a ∷ (range_with_len (a + 1) m ++ range_with_len k n)) place ∙ ap (λ ns. a ∷ ns) (range_parts (a + 1) m n) ∙ ap (range_with_len a) (sym count)

-- numbers moved up
range_moved : (b a m : ℕ) → map (λ j. b + j) (range_with_len a m) ≡ range_with_len (b + a) m
range_moved b a zero = refl
range_moved b a (suc m) =
    let place : b + (a + 1) ≡ b + a + 1 = omega arith in
    ap (λ ns. (b + a) ∷ ns) (range_moved b (a + 1) m ∙ ap (λ k. range_with_len k m) place)

-- so many rows from a row on
rows_from : (m a n : ℕ) → flat_map (λ i. map (table_place m i) (range_with_len 0 m)) (range_with_len a n) ≡ range_with_len (a * m) (n * m)
rows_from m a zero = ap (range_with_len (a * m)) (sym (zero-mul m))
rows_from m a (suc n) =
    let row = λ (i : ℕ). map (table_place m i) (range_with_len 0 m) in
    let first : row a ≡ range_with_len (a * m) m = range_moved (a * m) 0 m ∙ ap (λ k. range_with_len k m) (add-zero (a * m)) in
    let next : (a + 1) * m ≡ a * m + m = add-mul a 1 m ∙ ap (λ k. a * m + k) (one-mul m) in
    let count : m + n * m ≡ suc n * m = sym (ap (λ k. k * m) (omega arith) ∙ add-mul 1 n m ∙ ap (λ k. k + n * m) (one-mul m)) in
    flat_map-cons row a (range_with_len (a + 1) n)
    ∙ ap (λ ns. ns ++ flat_map row (range_with_len (a + 1) n)) first
    ∙ ap (λ ns. range_with_len (a * m) m ++ ns) (rows_from m (a + 1) n ∙ ap (λ k. range_with_len k (n * m)) next)
    ∙ range_parts (a * m) m (n * m)
    ∙ ap (range_with_len (a * m)) count

-- a place in a row that is there
place_within : (n m i j : ℕ) → i < n → j < m → table_place m i j < n * m
place_within n m i j row column =
    let rows : (i + 1) * m ≤ n * m = mul-le-mul_right m (omega arith) in
    let last : (i + 1) * m ≡ i * m + m = add-mul i 1 m ∙ ap (λ k. i * m + k) (one-mul m) in
    omega arith

-- a table with a place has a column
some_columns : (n m p : ℕ) → p < n * m → 0 < m
some_columns n zero p h = absurd (omega (arith, mul-zero n))
some_columns n (suc m) p h = omega arith

pub places_of_table : PlacesOfTable
places_of_table = record {
  all = λ n m. rows_from m 0 n ∙ ap (λ k. range_with_len k (n * m)) (zero-mul m);
  within = place_within;
  row = λ m i j h. div-mul-add i m j h;
  column = λ m i j h. mod-mul-add i m j h;
  row_within = λ n m p h. (div-lt_iff_lt-mul (some_columns n m p h)).1 h;
  column_within = λ n m p h. mod-lt p (some_columns n m p h);
  back = λ m p. div-add-mod' p m;
}
