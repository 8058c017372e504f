use Rattle.trio.proofs.Few.{moves_are_few}
use Rattle.trio.proofs.laws.moves_are_few.Goals as goal

pub returns : goal.returns
returns g c = moves_are_few
