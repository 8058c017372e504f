-- Orders: permutations of the numbers below a length, and their group.
use Rattle.std.specs.Prelude.{◌≡◌, ℕ, suc, ◌<◌, ◌≤◌, ◌^◌, ◌==◌, List, [], ◌∷◌, length, slice_index, map, if◌then◌else◌}
use Rattle.std.specs.List.{range_with_len}
use Rattle.lanes.specs.Lanes.{picked}

-- each number is below the length
abbrev pub AllBelow : List ℕ → Type 0
AllBelow o = (k : ℕ) → k < length o → slice_index o k < length o

-- no number stands twice
abbrev pub NoneTwice : List ℕ → Type 0
NoneTwice o =
    (i j : ℕ) → i < length o → j < length o → slice_index o i ≡ slice_index o j → i ≡ j

-- a permutation of the numbers below its length
pub record IsOrder (o : List ℕ) : Type 0 where
  pub below : AllBelow o
  pub apart : NoneTwice o

-- the order that leaves each of n items in its place
abbrev pub identity_of : ℕ → List ℕ
identity_of n = range_with_len 0 n

-- an order applied: at i stands what stood at its i-th number
abbrev pub applied : List ℕ → List ℕ → List ℕ
applied o xs = picked o xs

-- one order and then another one
abbrev pub composed : List ℕ → List ℕ → List ℕ
composed a b = picked b a

-- the first place of a number, the length where there is none
abbrev pub place_of : ℕ → List ℕ → ℕ
place_of v [] = 0
place_of v (x ∷ xs) = if v == x then 0 else suc (place_of v xs)

-- the order that puts each item back
abbrev pub inverse_of : List ℕ → List ℕ
inverse_of o = map (λ v. place_of v o) (range_with_len 0 (length o))

-- an order of at most as many items as a number of 32 bits can name
pub record IsShortOrder (o : List ℕ) : Type 0 where
  pub order : IsOrder o
  pub short : length o ≤ 2 ^ 32
