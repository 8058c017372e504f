use Rattle.padded.proofs.Pairs.{rows_of_pairs}
use Rattle.padded.proofs.laws.rows_of_pairs.Goals as goal

pub returns : goal.returns
returns c = rows_of_pairs c.table_laws.ensures
