use Rattle.padded.proofs.Rows.{rows_cut}
use Rattle.padded.proofs.laws.rows_of_cut.Goals as goal

pub returns : goal.returns
returns c = rows_cut
