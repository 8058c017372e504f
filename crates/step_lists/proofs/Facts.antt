-- The laws of the crates below that the lemmas here rest on.
use Rattle.lanes.specs.Items.{LaneLengths, WordsOfParts, WordsStay}
use Rattle.tapes.specs.Laws.{OrdersAreClosed, ComposedIsApplied}

pub record Facts : Type 0 where
  pub stay : WordsStay
  pub lengths : LaneLengths
  pub behind : WordsOfParts
  pub closed : OrdersAreClosed
  pub composed : ComposedIsApplied
