use Rattle.padded.proofs.Padding.{rows_padded}
use Rattle.padded.proofs.laws.rows_of_padded.Goals as goal

pub returns : goal.returns
returns c = rows_padded
