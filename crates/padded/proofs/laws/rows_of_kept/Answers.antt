use Rattle.padded.proofs.Rows.{rows_kept}
use Rattle.padded.proofs.laws.rows_of_kept.Goals as goal

pub returns : goal.returns
returns c = rows_kept
