use Rattle.padded.proofs.Rows.{rows_fit}
use Rattle.padded.proofs.laws.rows_fit_table.Goals as goal

pub returns : goal.returns
returns c = rows_fit
