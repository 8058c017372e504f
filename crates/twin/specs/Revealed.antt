-- What the phases of a Reveal draw.
use Rattle.std.specs.Prelude.{◌≡◌, ◌*◌, ℕ, List}
use Rattle.step_lists.specs.Draws.{ThreeTapes, order_in}
use Rattle.joint_machine.specs.Steps.{PhaseDraw, IsDrawnFor}

-- three tapes with these orders
pub record OrdersOf (p q r : List ℕ) (ds : ThreeTapes) : Type 0 where
  pub one : p ≡ order_in ds.first
  pub two : q ≡ order_in ds.second
  pub three : r ≡ order_in ds.third

-- the draws of three phases on m registers of n rows
pub record AreRevealDraws (m n : ℕ) (one two three : PhaseDraw) : Type 0 where
  pub first : IsDrawnFor n (m * n) one
  pub second : IsDrawnFor n (m * n) two
  pub third : IsDrawnFor n (m * n) three
