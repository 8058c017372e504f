-- The places of a table, which are numbered row after row.
use Rattle.std.specs.Prelude.{◌≡◌, ◌<◌, ℕ, ◌+◌, ◌*◌, ◌/◌, ◌%◌, List, map}
use Rattle.std.specs.List.{flat_map, range_with_len}

-- the place in row i and column j of a table of m columns
abbrev pub table_place : ℕ → ℕ → ℕ → ℕ
table_place m i j = i * m + j

-- the places of a table of n rows and m columns, row after row
abbrev pub table_places : ℕ → ℕ → List ℕ
table_places n m = flat_map (λ i. map (table_place m i) (range_with_len 0 m)) (range_with_len 0 n)

-- the places of a table are the numbers below its size, and each tells its row and column
pub record PlacesOfTable : Type 0 where
  pub all : (n m : ℕ) → table_places n m ≡ range_with_len 0 (n * m)
  pub within : (n m i j : ℕ) → i < n → j < m → table_place m i j < n * m
  pub row : (m i j : ℕ) → j < m → table_place m i j / m ≡ i
  pub column : (m i j : ℕ) → j < m → table_place m i j % m ≡ j
  pub row_within : (n m p : ℕ) → p < n * m → p / m < n
  pub column_within : (n m p : ℕ) → p < n * m → p % m < m
  pub back : (m p : ℕ) → table_place m (p / m) (p % m) ≡ p
