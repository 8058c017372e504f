-- The laws of the crates below that the lemmas here rest on.
use Rattle.lanes.specs.Items.{LaneLengths, LaneItems, WordsOfParts, WordsStay}
use Rattle.lanes.specs.Laws.{XorCommutes, XorAssociates, MaskComesOff}
use Rattle.lanes.specs.SharedAnd.{MasksAbsorb, OpenedGoesRound, ThirdMaskIsApart}
use Rattle.lanes.specs.XorLaws.{XorOfZeros, XorOfParts}
use Rattle.bags.specs.Laws.{BagsAreEquivalence, BagsKeepRows}
use Rattle.tapes.specs.Laws.{OrdersAreClosed, IdentityIsNeutral, OrdersAssociate, InverseUndoes, ComposedIsApplied, AppliedGoesThrough, AlignedIsExact, SameBagsAlign}
use Rattle.tapes.specs.NeedLaws.{FitsOfParts}
use Rattle.tapes.specs.RowLaws.{RowsOfColumns, RowsOfOrders}

-- what the laws of the crates below say, in one record
pub record Facts : Type 0 where
  pub commutes : XorCommutes
  pub associates : XorAssociates
  pub comes_off : MaskComesOff
  pub stay : WordsStay
  pub lengths : LaneLengths
  pub items : LaneItems
  pub behind : WordsOfParts
  pub zeros : XorOfZeros
  pub parts : XorOfParts
  pub absorb : MasksAbsorb
  pub apart : ThirdMaskIsApart
  pub round : OpenedGoesRound
  pub equivalence : BagsAreEquivalence
  pub keep : BagsKeepRows
  pub closed : OrdersAreClosed
  pub identity : IdentityIsNeutral
  pub associative : OrdersAssociate
  pub inverse : InverseUndoes
  pub composed : ComposedIsApplied
  pub applied : AppliedGoesThrough
  pub orders : RowsOfOrders
  pub columns : RowsOfColumns
  pub exact : AlignedIsExact
  pub exist : SameBagsAlign
  pub needs : FitsOfParts
