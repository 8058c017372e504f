use Rattle.padded.proofs.Moves.{rows_gathered}
use Rattle.padded.proofs.laws.rows_of_gathered.Goals as goal

pub returns : goal.returns
returns c = rows_gathered
