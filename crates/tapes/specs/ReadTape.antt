-- What the bytes of a tape read as: the tape, or the first fault in the order of draws.
use Rattle.std.specs.Prelude.{◌≡◌, ◌⊎◌, ℕ, ◌<◌, ◌≤◌, ◌^◌, ⊤, List, ◌++◌, length, take, slice_get, slice_index, Some, Result, Ok, Err}
use Rattle.tapes.specs.declared.draw.Need.{Need}
use Rattle.tapes.specs.declared.draw.Need.TheVariants.{OrderOf}
use Rattle.tapes.specs.declared.draw.Draw.{Draw}
use Rattle.tapes.specs.declared.tape_bytes.TapeFault.{TapeFault}
use Rattle.tapes.specs.declared.tape_bytes.TapeFault.TheVariants.{Short, Long, NotOrder, Memory}
use Rattle.tapes.specs.Order.{IsOrder}
use Rattle.tapes.specs.Bytes.{number_bytes, tape_bytes}
use Rattle.tapes.specs.Needs.{FitsNeeds, width_of}

-- the bytes begin with these first draws, of the needed sorts, and the rest follows
pub record Begins (needs : List Need) (bytes : List ℕ) (draws : List Draw) (rest : List ℕ) : Type 0 where
  pub within : length draws ≤ length needs
  pub fits : FitsNeeds (take (length draws) needs) draws
  pub spelled : bytes ≡ tape_bytes draws ++ rest

-- numbers of 32 bits that are no order of this many items
pub record AreNoOrder (count : ℕ) (numbers : List ℕ) : Type 0 where
  pub count_is : length numbers ≡ count
  pub small : (k : ℕ) → slice_index numbers k < 2 ^ 32
  pub no_order : ¬ IsOrder numbers

-- the bytes end within draw number d or before it
pub record IsShortAt (needs : List Need) (bytes : List ℕ) (d : ℕ) : Type 0 where
  pub draws : List Draw
  pub rest : List ℕ
  pub begins : Begins needs bytes draws rest
  pub number : length draws ≡ d
  pub need : Need
  pub needed : slice_get needs d ≡ Some need
  pub short : length rest < width_of need

-- the numbers that stand for draw number d are no order
pub record IsNoOrderAt (needs : List Need) (bytes : List ℕ) (d : ℕ) : Type 0 where
  pub draws : List Draw
  pub numbers : List ℕ
  pub rest : List ℕ
  pub begins : Begins needs bytes draws (number_bytes numbers ++ rest)
  pub number : length draws ≡ d
  pub count : ℕ
  pub needed : slice_get needs d ≡ Some (OrderOf count)
  pub no_order : AreNoOrder count numbers

-- bytes follow the last draw; d is the number of draws
pub record IsLongAt (needs : List Need) (bytes : List ℕ) (d : ℕ) : Type 0 where
  pub draws : List Draw
  pub rest : List ℕ
  pub begins : Begins needs bytes draws rest
  pub all : length draws ≡ length needs
  pub number : length needs ≡ d
  pub more : 0 < length rest

-- the answers that are right for these bytes, want of memory aside
abbrev pub ReadsTape : List Need → List ℕ → Result (List Draw) TapeFault → Type 0
ReadsTape needs bytes (Ok tape) = FitsNeeds needs tape × (bytes ≡ tape_bytes tape)
ReadsTape needs bytes (Err (Short d)) = IsShortAt needs bytes d
ReadsTape needs bytes (Err (Long d)) = IsLongAt needs bytes d
ReadsTape needs bytes (Err (NotOrder d)) = IsNoOrderAt needs bytes d
ReadsTape needs bytes (Err Memory) = ⊤

-- whatever answer is right for these bytes is this one, unless either is want of memory
abbrev pub IsOnlyAnswer : List Need → List ℕ → Result (List Draw) TapeFault → Type 0
IsOnlyAnswer needs bytes answer =
    (right : Result (List Draw) TapeFault) → ReadsTape needs bytes right
    → (answer ≡ right) ⊎ ((answer ≡ Err Memory) ⊎ (right ≡ Err Memory))
