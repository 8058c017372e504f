-- The laws of the crates below that the lemmas here rest on.
use Rattle.lanes.specs.Items.{LaneLengths, WordsOfParts, WordsStay}
use Rattle.lanes.specs.Laws.{XorCommutes, XorAssociates, MaskComesOff, NotOfOneShare, PickOfXor}
use Rattle.lanes.specs.SharedAnd.{MaskedAndOfShares, OpenedGoesRound}
use Rattle.lanes.specs.XorLaws.{XorGoesThrough, XorOfZeros, XorOfParts}
use Rattle.tapes.specs.Laws.{OrdersAreClosed, IdentityIsNeutral, InverseUndoes, ComposedIsApplied}

pub record Facts : Type 0 where
  pub commutes : XorCommutes
  pub associates : XorAssociates
  pub comes_off : MaskComesOff
  pub not_of_one : NotOfOneShare
  pub pick : PickOfXor
  pub stay : WordsStay
  pub lengths : LaneLengths
  pub behind : WordsOfParts
  pub through : XorGoesThrough
  pub zeros : XorOfZeros
  pub parts : XorOfParts
  pub masked : MaskedAndOfShares
  pub round : OpenedGoesRound
  pub closed : OrdersAreClosed
  pub identity : IdentityIsNeutral
  pub inverse : InverseUndoes
  pub composed : ComposedIsApplied
