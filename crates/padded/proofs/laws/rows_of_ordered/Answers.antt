use Rattle.padded.proofs.Moves.{rows_ordered}
use Rattle.padded.proofs.laws.rows_of_ordered.Goals as goal

pub returns : goal.returns
returns c = rows_ordered c.row_laws.ensures.orders c.bags_of_filter.ensures c.bags_of_map.ensures
