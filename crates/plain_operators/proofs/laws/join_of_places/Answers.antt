use Rattle.plain_operators.proofs.Places.{join_of_places}
use Rattle.plain_operators.proofs.laws.join_of_places.Goals as goal

pub returns : goal.returns
returns c = join_of_places
