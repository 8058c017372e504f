use Rattle.places.proofs.FirstBroken.{keeps_bounds}
use Rattle.places.proofs.laws.no_excess_keeps_bounds.Goals as goal

pub returns : goal.returns
returns c = λ graph known rewritten all world is none number node at. keeps_bounds graph known rewritten world all is none number node at
