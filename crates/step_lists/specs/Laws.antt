-- The laws of step lists.
use Rattle.std.specs.Prelude.{◌≡◌, All, ℕ, ◌+◌, ◌^◌, ◌<◌, Bool, true, false, List, [], ◌∷◌, ◌++◌, length, slice_index}
use Rattle.lanes.specs.declared.party.Party.{Party}
use Rattle.lanes.specs.Three.{at}
use Rattle.tapes.specs.Order.{IsOrder, applied}
use Rattle.step_lists.specs.Layout.{Step, Reveal, Flag, Steps, party_of, starting, layout_of, length_of, shape_of, rows_moved}
use Rattle.step_lists.specs.Draws.{ThreeTapes, needs_of, taken}
use Rattle.step_lists.specs.Run.{tape_cut, rest_after}
use Rattle.step_lists.specs.Open.{SlotWords, register, slot, open_step, open_of, turned}
use Rattle.step_lists.specs.Seen.{Flagged, seen, seen_behind}
use Rattle.step_lists.specs.OpenFits.{OpenFits}
use Rattle.step_lists.specs.Rules.{IsWellFormed}
use Rattle.step_lists.specs.declared.step.Shape.{Shape}
use Rattle.step_lists.specs.Possible.{Fits, Possible, StandsIn, behind, ands_behind, ands_in}

-- what a list has, a longer one has: lengths, shapes, and as many registers and slots at least
abbrev pub PrefixKeepsLayout : {T : Type 0} → (T → List (List ℕ) → List (List ℕ)) → Type 0
PrefixKeepsLayout {T} answer =
    (a b : Steps T) → StandsIn a b
    → ((r : ℕ) → r < length (layout_of a).registers → (r < length (layout_of b).registers) × (length_of (layout_of b) r ≡ length_of (layout_of a) r))
    × ((p : Party) (s : ℕ) → s < length (at p (layout_of a).slots) → (s < length (at p (layout_of b).slots)) × (shape_of (layout_of b) p s ≡ shape_of (layout_of a) p s))

-- environments of a longer list are environments of the list
abbrev pub PrefixIsPossible : {T : Type 0} → (T → List (List ℕ) → List (List ℕ)) → Type 0
PrefixIsPossible {T} answer = (a b : Steps T) (slots : SlotWords) (ds : ThreeTapes) → StandsIn a b → Possible answer b slots ds → Possible answer a slots ds

-- and in them registers and slots keep their values
abbrev pub PrefixKeepsRegisters : {T : Type 0} → (T → List (List ℕ) → List (List ℕ)) → Type 0
PrefixKeepsRegisters {T} answer =
    (a b : Steps T) (slots : SlotWords) (ds : ThreeTapes) → StandsIn a b → Possible answer b slots ds
    → (r : ℕ) → r < length (layout_of a).registers → register (open_of answer b slots ds) r ≡ register (open_of answer a slots ds) r

abbrev pub PrefixKeepsSlots : {T : Type 0} → (T → List (List ℕ) → List (List ℕ)) → Type 0
PrefixKeepsSlots {T} answer =
    (a b : Steps T) (slots : SlotWords) (ds : ThreeTapes) → StandsIn a b
    → (p : Party) (s : ℕ) → s < length (at p (open_of answer a slots ds).slots) → slot (open_of answer b slots ds) p s ≡ slot (open_of answer a slots ds) p s

-- what is seen of a longer list is what is seen of the list, and then what is seen behind it
abbrev pub SeenAppends : {T : Type 0} → (T → List (List ℕ) → List (List ℕ)) → Type 0
SeenAppends {T} answer =
    (v : Party) (a : Steps T) (more : List (Step T)) (slots : SlotWords) (ds : ThreeTapes)
    → seen answer v (behind a more) slots ds ≡ seen answer v a slots ds ++ seen_behind answer v a more slots ds

-- ---- one step more

-- the draws that the step behind a list takes
abbrev pub drawn_behind : {T : Type 0} → Steps T → Step T → ThreeTapes → ThreeTapes
drawn_behind a s ds = taken (needs_of (layout_of a) s) (rest_after tape_cut (starting a.first) a.steps ds)

-- the values behind a step are those of its kind on the values before it
abbrev pub StepValues : {T : Type 0} → (T → List (List ℕ) → List (List ℕ)) → Type 0
StepValues {T} answer =
    (a : Steps T) (s : Step T) (slots : SlotWords) (ds : ThreeTapes) → (open_of answer a slots ds).stop ≡ false
    → open_of answer (behind a (s ∷ [])) slots ds ≡ open_step answer (open_of answer a slots ds) s (drawn_behind a s ds)

-- the three orders that a Reveal draws are one order of its rows, which is applied to every moved register and to every
-- shown slot
pub record RevealOrder (n : ℕ) (ds : ThreeTapes) : Type 0 where
  pub order : List ℕ
  pub is_order : IsOrder order
  pub long : length order ≡ n
  pub turns : (xs : List ℕ) → turned ds xs ≡ applied order xs

abbrev pub RevealIsOneOrder : {T : Type 0} → (T → List (List ℕ) → List (List ℕ)) → Type 0
RevealIsOneOrder {T} answer =
    (a : Steps T) (to : ℕ) (moved shown : List ℕ) (slots : SlotWords) (ds : ThreeTapes)
    → Fits (behind a (Reveal to moved shown ∷ [])) slots ds → RevealOrder (rows_moved (layout_of a) moved) (drawn_behind a (Reveal to moved shown) ds)

-- registers have their lengths, slots their shapes, words are below 2 ^ 64, and a slot of the shape of an order is one
abbrev pub ValuesHaveShapes : {T : Type 0} → (T → List Shape → List Shape → Bool) → (T → List (List ℕ) → List (List ℕ)) → Type 0
ValuesHaveShapes {T} accepts answer =
    (list : Steps T) (slots : SlotWords) (ds : ThreeTapes) → IsWellFormed accepts list → Possible answer list slots ds
    → OpenFits (layout_of list) (open_of answer list slots ds)

-- a flag whose word is 0 stops nothing; another one stops the run, also of every longer list, and nothing is seen behind it
pub record FlagsDecide {T : Type 0} (answer : T → List (List ℕ) → List (List ℕ)) : Type 0 where
  pub goes : (a : Steps T) (p s : ℕ) (slots : SlotWords) (ds : ThreeTapes) → Possible answer a slots ds
      → slice_index (slot (open_of answer a slots ds) (party_of p) s) 0 ≡ 0 → Possible answer (behind a (Flag p s ∷ [])) slots ds
  pub stops : (a : Steps T) (p s : ℕ) (more : List (Step T)) (slots : SlotWords) (ds : ThreeTapes) → (open_of answer a slots ds).stop ≡ false
      → ¬ (slice_index (slot (open_of answer a slots ds) (party_of p) s) 0 ≡ 0)
      → open_of answer (behind a (Flag p s ∷ more)) slots ds ≡ record (open_of answer a slots ds) { stop = true }
  pub shows : (v : Party) (a : Steps T) (p s : ℕ) (more : List (Step T)) (slots : SlotWords) (ds : ThreeTapes) → (open_of answer a slots ds).stop ≡ false
      → ¬ (slice_index (slot (open_of answer a slots ds) (party_of p) s) 0 ≡ 0)
      → seen answer v (behind a (Flag p s ∷ more)) slots ds ≡ seen answer v a slots ds ++ Flagged (slot (open_of answer a slots ds) (party_of p) s) ∷ []

-- AND words add up
abbrev pub AndsAddUp : {T : Type 0} → (T → List (List ℕ) → List (List ℕ)) → Type 0
AndsAddUp {T} answer = (a : Steps T) (more : List (Step T)) → ands_in (behind a more) ≡ ands_in a + ands_behind (layout_of a) more

-- and there are fewer than 2 ^ 64 of them, where each register is shorter than 2 ^ 32 words as `StepList::registers` tells
abbrev pub AndsAreFew : {T : Type 0} → (T → List Shape → List Shape → Bool) → Type 0
AndsAreFew {T} accepts = (list : Steps T) → IsWellFormed accepts list → All (λ n. n < 2 ^ 32) (layout_of list).registers → ands_in list < 2 ^ 64
