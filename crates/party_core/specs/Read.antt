-- What is read of draws.
use Rattle.std.specs.Prelude.{◌≡◌, ℕ, List, [], Option, Some, None}
use Rattle.tapes.specs.declared.draw.Draw.{Draw}
use Rattle.step_lists.specs.Draws.{words_in, order_in}

-- an order that was found, or the one of no items
abbrev pub order_seen : Option (List ℕ) → List ℕ
order_seen None = []
order_seen (Some o) = o

-- the words and the first order of some draws
pub record AreRead (draws : List Draw) (ws o : List ℕ) : Type 0 where
  pub words : ws ≡ words_in draws
  pub order : o ≡ order_in draws
