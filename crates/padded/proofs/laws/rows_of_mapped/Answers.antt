use Rattle.padded.proofs.Rows.{rows_mapped}
use Rattle.padded.proofs.laws.rows_of_mapped.Goals as goal

pub returns : goal.returns
returns c = rows_mapped
