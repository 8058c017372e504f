-- The laws of bags and of the operators on which the steps of trust stand.
use Rattle.bags.specs.Laws.{BagsOfAppend, BagsOfMap}
use Rattle.plain_operators.specs.Cuts.{AggregatesOfCuts, OperatorsOfCuts}
use Rattle.plain_operators.specs.Laws.{WholeTableIsGroup}
use Rattle.plain_operators.specs.Sizes.{OperatorsKeepWidths}

pub record StepLaws : Type 0 where
  pub append : BagsOfAppend
  pub maps : BagsOfMap
  pub cuts : OperatorsOfCuts
  pub aggregates : AggregatesOfCuts
  pub whole : WholeTableIsGroup
  pub widths : OperatorsKeepWidths
