-- How a step list keeps its layout, and what a push does.
use Rattle.std.specs.Prelude.{◌≡◌, ℕ, Bool, List, Vec, ◌++◌, map, replicate, Result, Ok, Err, ⊤}
use Rattle.std.specs.Global.{Global}
use Rattle.lanes.specs.declared.party.Party.{Party}
use Rattle.lanes.specs.declared.three.Three.{Three}
use Rattle.step_lists.specs.declared.step.Shape.{Shape}
use Rattle.step_lists.specs.declared.step.Shape.TheVariants as shapes
use Rattle.step_lists.specs.Layout.{Steps, Layout, layout_of, with_lengths, with_shapes}
use Rattle.step_lists.specs.Rules.{IsWellFormed}

-- the lengths of the first slots, and the layout now
pub record Laid : Type 0 where
  pub first : Three (List ℕ)
  pub now : Layout

-- the first slots, and then those that were made
abbrev pub all_slots : Vec ℕ Global → Vec Shape Global → List Shape
all_slots first made = map shapes.Words first.items ++ made.items

-- a list of which this is the layout
pub record IsKept {T : Type 0} (accepts : T → List Shape → List Shape → Bool) (list : Steps T) (now : Layout) : Type 0 where
  pub same : now ≡ layout_of list
  pub well_formed : IsWellFormed accepts list

-- a growth to this layout, or nothing where memory is wanting
abbrev pub IsGrown : {E : Type 0} → Result ⊤ E → Laid → Laid → Layout → Type 0
IsGrown (Ok u) old new grown = new ≡ record { first = old.first; now = grown }
IsGrown (Err e) old new grown = new ≡ old

-- more registers of some rows, and more slots of a party of as many words
abbrev pub revealed : Layout → ℕ → ℕ → Party → ℕ → Layout
revealed l rows moved to shown = with_shapes (with_lengths l (replicate moved rows)) to (replicate shown (shapes.Words rows))
