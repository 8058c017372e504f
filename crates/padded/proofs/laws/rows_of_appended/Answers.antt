use Rattle.padded.proofs.Moves.{rows_appended}
use Rattle.padded.proofs.laws.rows_of_appended.Goals as goal

pub returns : goal.returns
returns c = rows_appended
