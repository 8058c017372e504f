use Rattle.padded.proofs.Zeros.{rows_zeroed}
use Rattle.padded.proofs.laws.rows_of_zeroed.Goals as goal

pub returns : goal.returns
returns c = rows_zeroed c.item_laws.ensures.items c.bags_are_permutations.ensures
