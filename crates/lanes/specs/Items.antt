-- How long lane-wise lists are, which word stands in each lane, and that lists of words stay such.
use Rattle.std.specs.Prelude.{◌≡◌, ◌<◌, ◌^◌, ℕ, min, max, List, ◌++◌, bit_and, bit_xor, length, slice_index}
use Rattle.lanes.specs.Lanes.{ands, crosses, lanewise, lanewise1, nots, picked, xors}
use Rattle.lanes.specs.Shifts.{shifted_left, shifted_right, spread_word}
use Rattle.lanes.specs.Word.{AreWords, cross}

-- a xor is as long as the longer list, an and as the shorter, a pick as its places
pub record LaneLengths : Type 0 where
  pub xor : (xs ys : List ℕ) → length (xors xs ys) ≡ max (length xs) (length ys)
  pub and : (xs ys : List ℕ) → length (ands xs ys) ≡ min (length xs) (length ys)
  pub lane : (f : ℕ → ℕ → ℕ) (xs ys : List ℕ) → length (lanewise f xs ys) ≡ min (length xs) (length ys)
  pub each : (f : ℕ → ℕ) (xs : List ℕ) → length (lanewise1 f xs) ≡ length xs
  pub pick : (ps xs : List ℕ) → length (picked ps xs) ≡ length ps
  pub cross : (xs xs' ys ys' : List ℕ) → length xs' ≡ length xs → length ys ≡ length xs → length ys' ≡ length xs → length (crosses xs xs' ys ys') ≡ length xs

-- the word in a lane, 0 past the end; where the end counts, the lane has to be there
pub record LaneItems : Type 0 where
  pub xor : (xs ys : List ℕ) (k : ℕ) → slice_index (xors xs ys) k ≡ bit_xor (slice_index xs k) (slice_index ys k)
  pub and : (xs ys : List ℕ) (k : ℕ) → slice_index (ands xs ys) k ≡ bit_and (slice_index xs k) (slice_index ys k)
  pub lane : (f : ℕ → ℕ → ℕ) (xs ys : List ℕ) (k : ℕ) → k < length xs → k < length ys → slice_index (lanewise f xs ys) k ≡ f (slice_index xs k) (slice_index ys k)
  pub each : (f : ℕ → ℕ) (xs : List ℕ) (k : ℕ) → k < length xs → slice_index (lanewise1 f xs) k ≡ f (slice_index xs k)
  pub pick : (ps xs : List ℕ) (k : ℕ) → k < length ps → slice_index (picked ps xs) k ≡ slice_index xs (slice_index ps k)
  pub cross : (xs xs' ys ys' : List ℕ) (k : ℕ) → slice_index (crosses xs xs' ys ys') k ≡ cross (slice_index xs k) (slice_index xs' k) (slice_index ys k) (slice_index ys' k)

-- lists of words stay such under each operation
pub record WordsStay : Type 0 where
  pub xor : (xs ys : List ℕ) → AreWords xs → AreWords ys → AreWords (xors xs ys)
  pub and : (xs ys : List ℕ) → AreWords xs → AreWords (ands xs ys)
  pub cross : (xs xs' ys ys' : List ℕ) → AreWords xs → AreWords xs' → AreWords (crosses xs xs' ys ys')
  pub not : (xs : List ℕ) → AreWords xs → AreWords (nots xs)
  pub left : (by : ℕ) (xs : List ℕ) → AreWords (lanewise1 (shifted_left by) xs)
  pub right : (by : ℕ) (xs : List ℕ) → AreWords xs → AreWords (lanewise1 (shifted_right by) xs)
  pub mask : (word : ℕ) (xs : List ℕ) → AreWords xs → AreWords (lanewise1 (λ x. bit_and x word) xs)
  pub spread : (xs : List ℕ) → AreWords (lanewise1 spread_word xs)
  pub pick : (ps xs : List ℕ) → AreWords xs → AreWords (picked ps xs)
  pub lane : (f : ℕ → ℕ → ℕ) → ((x y : ℕ) → x < 2 ^ 64 → y < 2 ^ 64 → f x y < 2 ^ 64) → (xs ys : List ℕ) → AreWords xs → AreWords ys → AreWords (lanewise f xs ys)
  pub each : (f : ℕ → ℕ) → ((x : ℕ) → x < 2 ^ 64 → f x < 2 ^ 64) → (xs : List ℕ) → AreWords xs → AreWords (lanewise1 f xs)

-- lists one behind the other are words exactly where both are; and it is enough to look at the lanes that are there
pub record WordsOfParts : Type 0 where
  pub appended : (xs ys : List ℕ) → AreWords xs → AreWords ys → AreWords (xs ++ ys)
  pub first : (xs ys : List ℕ) → AreWords (xs ++ ys) → AreWords xs
  pub behind : (xs ys : List ℕ) → AreWords (xs ++ ys) → AreWords ys
  pub within : (xs : List ℕ) → ((k : ℕ) → k < length xs → slice_index xs k < 2 ^ 64) → AreWords xs
