use Rattle.lowering.proofs.Isolating.{isolated_never_apart}
use Rattle.lowering.proofs.laws.isolated_is_never_apart.Goals as goal

pub returns : goal.returns
returns c = isolated_never_apart
