-- Words that have the shapes of slots.
use Rattle.std.specs.Prelude.{◌≡◌, ℕ, Bool, List, Vec, IsTrue, length, map}
use Rattle.std.specs.Global.{Global}
use Rattle.std.specs.List.{AllZip}
use Rattle.lanes.specs.Word.{AreWords}
use Rattle.tapes.specs.Order.{IsOrder}
use Rattle.step_lists.specs.declared.step.Shape.{Shape}
use Rattle.step_lists.specs.declared.step.Shape.TheVariants as shapes

-- lists of words in vectors
abbrev pub word_lists : Vec (Vec ℕ Global) Global → List (List ℕ)
word_lists rows = map (λ row. row.items) rows.items

-- so many words below 2 ^ 64
pub record HasLength (n : ℕ) (ws : List ℕ) : Type 0 where
  pub long : length ws ≡ n
  pub below : AreWords ws

-- words of a shape: so many words, or an order of so many items
abbrev pub HasShape : Shape → List ℕ → Type 0
HasShape (shapes.Words n) ws = HasLength n ws
HasShape (shapes.OrderOf n) ws = HasLength n ws × IsOrder ws

-- as many lists of words as shapes, each of its shape
abbrev pub HaveShapes : List Shape → List (List ℕ) → Type 0
HaveShapes shapes xs = AllZip HasShape shapes xs

-- words of shapes that are accepted with some shapes to be given
pub record IsInput (accepts : List Shape → List Shape → Bool) (xs : List (List ℕ)) : Type 0 where
  pub takes : List Shape
  pub gives : List Shape
  pub accepted : IsTrue (accepts takes gives)
  pub shaped : HaveShapes takes xs

-- a task's law: words of accepted shapes become words of the shapes that go with them
abbrev pub IsLawful : {T : Type 0} → (T → List Shape → List Shape → Bool) → (T → List (List ℕ) → List (List ℕ)) → Type 0
IsLawful {T} accepts answer =
    (task : T) (takes gives : List Shape) (xs : List (List ℕ)) → IsTrue (accepts task takes gives) → HaveShapes takes xs
    → HaveShapes gives (answer task xs)
