-- Wires over a step list: wire i is register i.
use Rattle.std.specs.Prelude.{◌≡◌, ℕ, ◌^◌, ◌<◌, Bool, true, false, List, [], ◌∷◌, length}
use Rattle.std.specs.Prelude.{count_by}
use Rattle.wires.specs.Environment.{Environment}
use Rattle.wires.specs.declared.wire.Wire.{Wire}
use Rattle.step_lists.specs.declared.step.Step.{Step}
use Rattle.step_lists.specs.declared.step.Step.TheVariants.{Const, Lin, And, Share, Reveal, Steer, Tell, Work, Flag}
use Rattle.step_lists.specs.Layout.{Steps, layout_of, length_of}
use Rattle.step_lists.specs.Draws.{ThreeTapes}
use Rattle.step_lists.specs.Open.{SlotWords, register, open_of}
use Rattle.step_lists.specs.Shapes.{HasLength}
use Rattle.step_lists.specs.Possible.{Possible, StandsIn, behind}
use Rattle.emit.specs.Adds.{AllMay, is_circuit}

-- the open values of a list's registers, as an environment of wires
abbrev pub opened : {T : Type 0} → (T → List (List ℕ) → List (List ℕ)) → Steps T → SlotWords → ThreeTapes → Environment
opened answer list slots ds = register (open_of answer list slots ds)

-- each wire has its register's open value, under some slots and tapes that fit and under which the list doesn't stop;
-- it has the register's length, which is below 2 ^ 32, and its words are below 2 ^ 64
pub record AreOpenValues {T : Type 0} (answer : T → List (List ℕ) → List (List ℕ)) (list : Steps T) (v : Environment) : Type 0 where
  pub slots : SlotWords
  pub tapes : ThreeTapes
  pub possible : Possible answer list slots tapes
  pub same : (r : ℕ) → r < length (layout_of list).registers → v r ≡ register (open_of answer list slots tapes) r
  pub fits : (r : ℕ) → r < length (layout_of list).registers → HasLength (length_of (layout_of list) r) (v r)
  pub few : (r : ℕ) → r < length (layout_of list).registers → length_of (layout_of list) r < 2 ^ 32

-- the first list begins the second, and each further step is one of a circuit
pub record GrowsByCircuit {T : Type 0} (a b : Steps T) : Type 0 where
  pub front : StandsIn a b
  pub kinds : AllMay is_circuit front.more

-- how many And steps a list has
abbrev pub is_and : {T : Type 0} → Step T → Bool
is_and (And left right) = true
is_and (Const words) = false
is_and (Lin op) = false
is_and (Share party slot) = false
is_and (Reveal to moved shown) = false
is_and (Steer by slot moved) = false
is_and (Tell source target slot) = false
is_and (Work party task takes gives) = false
is_and (Flag party slot) = false

abbrev pub calls_in : {T : Type 0} → Steps T → ℕ
calls_in list = count_by is_and list.steps

-- a step more, whose register has the next number
pub record IsAdded {T : Type 0} (old new : Steps T) (step : Step T) (wire : Wire) : Type 0 where
  pub is : new ≡ behind old (step ∷ [])
  pub number : wire.0 ≡ length (layout_of old).registers
