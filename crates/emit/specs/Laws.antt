-- What a caller knows of a list over which wires were made.
use Rattle.std.specs.Prelude.{◌≡◌, All, ℕ, ◌+◌, ◌^◌, ◌<◌, ◌≤◌, Bool, List, map}
use Rattle.std.specs.Borrow.{MutBor}
use Rattle.wires.specs.declared.wire.Wire.{Wire}
use Rattle.wires.specs.Environment.{Environment, words}
use Rattle.wires.specs.Growth.{AreMade, Carries, KeepsWires}
use Rattle.step_lists.specs.declared.step.Shape.{Shape}
use Rattle.step_lists.specs.declared.step.Step.{Step}
use Rattle.step_lists.specs.Layout.{Steps, layout_of}
use Rattle.step_lists.specs.Draws.{ThreeTapes}
use Rattle.step_lists.specs.Open.{SlotWords}
use Rattle.step_lists.specs.Possible.{Possible, StandsIn, ands_in}
use Rattle.step_lists.specs.Rules.{IsWellFormed}
use Rattle.emit.specs.Adds.{Adds, AllMay, is_circuit, opens_nothing, wants_nothing}
use Rattle.emit.specs.Borrowed.{GrowsOver, IsOver, borrowed}
use Rattle.emit.specs.declared.emit.Emit.{Emit}
use Rattle.emit.specs.Emit.{AreOpenValues, GrowsByCircuit, opened}

-- a well-formed list of registers that are shorter than 2 ^ 32 words, as every list is that a `StepList` holds
pub record IsListed {T : Type 0} (accepts : T → List Shape → List Shape → Bool) (list : Steps T) : Type 0 where
  pub well_formed : IsWellFormed accepts list
  pub short : All (λ n. n < 2 ^ 32) (layout_of list).registers

-- slots and tapes that fit such a list, and under which it doesn't stop, give an environment: the open values
abbrev pub EnvironmentsExist : {T : Type 0} → (T → List Shape → List Shape → Bool) → (T → List (List ℕ) → List (List ℕ)) → Type 0
EnvironmentsExist {T} accepts answer =
    (list : Steps T) (slots : SlotWords) (ds : ThreeTapes) → IsListed accepts list → Possible answer list slots ds
    → AreOpenValues answer list (opened answer list slots ds)

-- so what a wire carries is the open value of its register
abbrev pub CarriedIsOpened : {T : Type 0} → (T → List Shape → List Shape → Bool) → (T → List (List ℕ) → List (List ℕ)) → Type 0
CarriedIsOpened {T} accepts answer =
    (list : Steps T) (wire : Wire) (n : ℕ) (value : Environment → List ℕ) → IsListed accepts list
    → Carries (AreOpenValues answer list) (layout_of list).registers wire n value
    → (slots : SlotWords) (ds : ThreeTapes) → Possible answer list slots ds
    → words (opened answer list slots ds) wire ≡ value (opened answer list slots ds)

-- where a list begins a longer one, its wires stay, with their lanes; and in each environment of the longer list they have
-- the words that they have in the list's own
pub record WiresStay {T : Type 0} (answer : T → List (List ℕ) → List (List ℕ)) : Type 0 where
  pub made : (a b : Steps T) → StandsIn a b → KeepsWires (layout_of a).registers (layout_of b).registers
  pub possible : (a b : Steps T) (slots : SlotWords) (ds : ThreeTapes) → StandsIn a b → Possible answer b slots ds → Possible answer a slots ds
  pub words : (a b : Steps T) (slots : SlotWords) (ds : ThreeTapes) → StandsIn a b → Possible answer b slots ds
      → (wires : List Wire) → AreMade (layout_of a).registers wires → map (words (opened answer b slots ds)) wires ≡ map (words (opened answer a slots ds)) wires

-- steps that open nothing show nothing to anyone
abbrev pub QuietStepsAdd : {T : Type 0} → (T → List (List ℕ) → List (List ℕ)) → Type 0
QuietStepsAdd {T} answer =
    (a b : Steps T) (may : Step T → Bool) (n : ℕ) → (front : StandsIn a b) → AllMay may front.more → AllMay opens_nothing front.more → ands_in b ≤ ands_in a + n
    → Adds answer (λ (slots : SlotWords). slots) a b may n wants_nothing

-- circuits add constants, linear steps and Ands, of at most as many AND words as the count rose, and show nothing to anyone
abbrev pub CircuitsAdd : {T : Type 0} → (T → List (List ℕ) → List (List ℕ)) → Type 0
CircuitsAdd {T} answer =
    (a b : Steps T) (n : ℕ) → GrowsByCircuit a b → ands_in b ≤ ands_in a + n → Adds answer (λ (slots : SlotWords). slots) a b is_circuit n wants_nothing

-- wires that were made over a list and have grown, where the list ends as they do: what they add to it
abbrev pub WiresAdd : {T : Type 0} → (T → List (List ℕ) → List (List ℕ)) → Type 0
WiresAdd {T} answer =
    (list : MutBor (Steps T)) (start wires : Emit T) (end : Steps T) (cost : Steps T → ℕ) → IsOver start list → GrowsOver start wires → end ≡ (borrowed wires).now
    → ands_in (borrowed wires).now ≤ ands_in (borrowed start).now + cost (borrowed start).now
    → Adds answer (λ (slots : SlotWords). slots) list.now end is_circuit (cost list.now) wants_nothing

-- and the open values of the list are a possible environment of these wires, so what is said of each such environment is said
-- of the list
abbrev pub WiresOpen : {T : Type 0} → (T → List Shape → List Shape → Bool) → (T → List (List ℕ) → List (List ℕ)) → Type 0
WiresOpen {T} accepts answer =
    (wires : Emit T) (end : Steps T) (slots : SlotWords) (ds : ThreeTapes) → IsListed accepts end → end ≡ (borrowed wires).now → Possible answer end slots ds
    → AreOpenValues answer (borrowed wires).now (opened answer end slots ds)
